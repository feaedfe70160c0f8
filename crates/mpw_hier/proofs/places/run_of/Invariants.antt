-- The invariants of the loops of `run_of` in `src/places.rt`.
use Rattle.std.proofs.Common.{◌≡◌, take}
use Rattle.mpw_hier.specs.Internal.Places.{numbers_from}
use Rattle.mpw_hier.proofs.places.run_of.Given as goal

-- the indices so far are consecutive
abbrev pub invariant-loop-index : goal.invariant-loop-index
invariant-loop-index l = numbers_from l.first l.index ≡ take l.index l.places
