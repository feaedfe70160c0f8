-- The invariants of the loops of `ranks_of` in `src/met.rt`.
use Rattle.std.proofs.Common.{◌≡◌, length, take}
use Rattle.mpw_replies.specs.Internal.Ranks.{AreRanks}
use Rattle.mpw_replies.proofs.met.ranks_of.Given as goal

abbrev pub invariant-loop-submission : goal.invariant-loop-submission
invariant-loop-submission l =
    AreRanks l.fn.cells (take l.submission-index l.fn.submissions) l.ranks.items
    × (length l.ranks.items ≡ l.submission-index)
