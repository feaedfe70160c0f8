-- The invariants of the loops of `skip` in `src/read.rt`.
use Rattle.std.proofs.Common.{◌≡◌, ◌≤◌, length}
use Rattle.mpw_elements.specs.Grammar.{ignored}
use Rattle.mpw_elements.proofs.read.skip.Given as goal

-- what was skipped changes nothing
abbrev pub invariant-loop-outcome : goal.invariant-loop-outcome
invariant-loop-outcome l = record {
  same : ignored l.start l.records ≡ ignored l.start
      l.initial.records;
  rest : length l.records ≤ length l.initial.records;
}

abbrev pub decreases-loop-outcome : goal.decreases-loop-outcome
decreases-loop-outcome l = length l.records
