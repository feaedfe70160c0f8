-- The invariants of the loops of `names_with` in `src/renumber.rt`.
use Rattle.std.proofs.Common.{◌≡◌, map, take}
use Rattle.mpw_roles.specs.Internal.Table.{name_of}
use Rattle.mpw_roles.proofs.renumber.names_with.Given as goal

abbrev pub invariant-loop-number : goal.invariant-loop-number
invariant-loop-number l = l.copy ≡ map (name_of l.names) (take l.number-index l.order)
