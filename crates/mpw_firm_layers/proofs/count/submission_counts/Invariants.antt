-- The invariants of the loops of `submission_counts` in `src/count.rt`.
use Rattle.mpw_firm_layers.specs.Internal.Counts.{AreCounts}
use Rattle.mpw_firm_layers.proofs.count.submission_counts.Given as goal

abbrev pub invariant-loop-place : goal.invariant-loop-place
invariant-loop-place l = AreCounts l.shelf l.layer l.place l.counts.items
