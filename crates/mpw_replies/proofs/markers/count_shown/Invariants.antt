-- The invariants of the loops of `count_shown` in `src/markers.rt`.
use Rattle.std.proofs.Common.{◌≡◌, ◌≤◌, length, take}
use Rattle.std.specs.Prelude.{filter}
use Rattle.mpw_replies.specs.Internal.Ranks.{has_line}
use Rattle.mpw_replies.proofs.markers.count_shown.Given as goal

abbrev pub invariant-loop-marker : goal.invariant-loop-marker
invariant-loop-marker l = (l.count ≤ l.marker-index)
    × (l.count ≡ length (filter (has_line l.fn.rules l.fn.seen) (take l.marker-index l.fn.book)))
