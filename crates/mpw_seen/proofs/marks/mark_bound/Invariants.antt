-- The invariants of the loops of `mark_bound` in `src/marks.rt`.
use Rattle.mpw_seen.specs.Internal.Marks.{AreMarked}
use Rattle.mpw_seen.proofs.marks.mark_bound.Given as goal

abbrev pub invariant-loop-binding : goal.invariant-loop-binding
invariant-loop-binding l = AreMarked l.bindings l.binding-index l.below l.initial.marks l.marks
