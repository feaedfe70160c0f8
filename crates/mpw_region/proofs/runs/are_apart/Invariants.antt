-- The invariants of the loops of `are_apart` in `src/runs.rt`.
use Rattle.std.proofs.Common.{take}
use Rattle.std.specs.Prelude.{AllPairs}
use Rattle.mpw_region.specs.Runs.{StandsBefore}
use Rattle.mpw_region.proofs.runs.are_apart.Given as goal

abbrev pub invariant-loop-k : goal.invariant-loop-k
invariant-loop-k l = AllPairs StandsBefore (take l.k l.runs)
