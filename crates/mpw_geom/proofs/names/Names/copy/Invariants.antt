-- The invariants of the loops of `Names::copy` in `src/names.rt`.
use Rattle.std.proofs.Common.{◌≡◌, take}
use Rattle.mpw_geom.proofs.names.Names.copy.Given as goal

abbrev pub invariant-loop-name : goal.invariant-loop-name
invariant-loop-name l = l.items.items ≡ take l.name-index l.name-items
