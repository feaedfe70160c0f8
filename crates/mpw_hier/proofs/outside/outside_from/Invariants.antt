-- The invariants of the loops of `outside_from` in `src/outside.rt`.
use Rattle.std.proofs.Common.{◌≡◌, take}
use Rattle.mpw_hier.specs.Internal.Outside.{outside_from_all}
use Rattle.mpw_hier.proofs.outside.outside_from.Given as goal

-- the names of the places so far
abbrev pub invariant-loop-place : goal.invariant-loop-place
invariant-loop-place l = l.names ≡ outside_from_all l.library (take l.place-index l.places)
