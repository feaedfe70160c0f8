-- The invariants of the loops of `cut_last` in `src/key.rt`.
use Rattle.std.proofs.Common.{◌≡◌, ◌≤◌, None, drop, length}
use Rattle.mpw_wire.specs.Keys.{cut_last}
use Rattle.mpw_wire.proofs.key.cut_last.Given as goal

-- the part that was searched has no colon
abbrev pub invariant-loop-at : goal.invariant-loop-at
invariant-loop-at l = (cut_last (drop l.at l.word) ≡ None) × (l.at ≤ length l.word)

abbrev pub decreases-loop-at : goal.decreases-loop-at
decreases-loop-at l = l.at
