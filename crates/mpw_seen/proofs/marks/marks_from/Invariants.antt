-- The invariants of the loops of `marks_from` in `src/marks.rt`.
use Rattle.mpw_seen.specs.Internal.Marks.{AreReached}
use Rattle.mpw_seen.proofs.marks.marks_from.Given as goal

abbrev pub invariant-loop-place : goal.invariant-loop-place
invariant-loop-place l = AreReached l.shelf l.number l.place l.marks.items
