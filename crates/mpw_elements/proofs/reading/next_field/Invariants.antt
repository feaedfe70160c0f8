-- The invariants of the loops of `next_field` in `src/reading.rt`.
use Rattle.std.proofs.Common.{◌≡◌, ◌≤◌, length}
use Rattle.mpw_elements.specs.Reading.{field}
use Rattle.mpw_elements.proofs.reading.next_field.Given as goal

-- what was skipped changes nothing
abbrev pub invariant-loop-outcome : goal.invariant-loop-outcome
invariant-loop-outcome l = record {
  same : field l.start l.records ≡ field l.start
      l.initial.records;
  rest : length l.records ≤ length l.initial.records;
}

abbrev pub decreases-loop-outcome : goal.decreases-loop-outcome
decreases-loop-outcome l = length l.records
