-- The invariants of the loops of `seen_count` in `src/count.rt`.
use Rattle.mpw_seen.specs.Internal.Counts.{AreOfMarked}
use Rattle.mpw_seen.proofs.count.seen_count.Given as goal

abbrev pub invariant-loop-place : goal.invariant-loop-place
invariant-loop-place l = AreOfMarked l.shelf l.seen l.marks.items l.place l.counts.items
