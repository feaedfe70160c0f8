-- The invariants of the loops of `next_view` in `src/listing.rt`.
use Rattle.std.proofs.Common.{◌≡◌, length}
use Rattle.mpw_walk.specs.Turns.{given}
use Rattle.mpw_replies.specs.Listing.{seen_lines}
use Rattle.mpw_replies.proofs.listing.next_view.Given as goal

abbrev pub invariant-loop-placed : goal.invariant-loop-placed
invariant-loop-placed l = seen_lines l.fn.shelf l.fn.seen (given l.initial.walk.left)
    ≡ seen_lines l.fn.shelf l.fn.seen (given l.walk.left)

abbrev pub decreases-loop-placed : goal.decreases-loop-placed
decreases-loop-placed l = length (given l.walk.left)
