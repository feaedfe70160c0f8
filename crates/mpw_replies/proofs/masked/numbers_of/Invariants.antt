-- The invariants of the loops of `numbers_of` in `src/masked.rt`.
use Rattle.std.proofs.Common.{◌≡◌, length, take}
use Rattle.mpw_replies.specs.Internal.Ranks.{AreNumbers}
use Rattle.mpw_replies.proofs.masked.numbers_of.Given as goal

abbrev pub invariant-loop-marker : goal.invariant-loop-marker
invariant-loop-marker l = (length l.numbers.items ≡ l.fn.many)
    × AreNumbers l.fn.seen (take l.marker-index l.fn.book) l.numbers.items
