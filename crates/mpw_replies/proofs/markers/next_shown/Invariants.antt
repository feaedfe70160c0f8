-- The invariants of the loops of `next_shown` in `src/markers.rt`.
use Rattle.std.proofs.Common.{◌≡◌, ◌-◌, ℕ, List, length, drop}
use Rattle.mpw_roles.specs.Hierarchy.{Name}
use Rattle.mpw_replies.specs.Ranks.{shown_lines}
use Rattle.mpw_replies.proofs.markers.next_shown.Given as goal

abbrev pub invariant-loop-at : goal.invariant-loop-at
invariant-loop-at l =
    (names : List ℕ → List Name)
    → shown_lines names l.fn.rules l.fn.seen (drop l.initial.at l.fn.book) ≡ shown_lines names
    l.fn.rules l.fn.seen (drop l.at l.fn.book)

abbrev pub decreases-loop-at : goal.decreases-loop-at
decreases-loop-at l = length l.book - l.at
