-- The invariants of the loops of `Locked::finish` in `src/locked.rt`.
use Rattle.std.proofs.Common.{◌≡◌}
use Rattle.mpw_desk.proofs.Sums.{AreTaken}
use Rattle.mpw_desk.proofs.locked.Locked.finish.Given as goal

abbrev pub invariant-loop-pass : goal.invariant-loop-pass
invariant-loop-pass g l =
    (l.self ≡ l.initial.self) × (l.all.amount ≡ l.count)
    × AreTaken l.self.kept.desk.history l.fn.passes.items l.left.items l.count

abbrev pub decreases-loop-pass : goal.decreases-loop-pass
decreases-loop-pass g l = goal.left-loop-pass g l
