-- The invariants of the loops of `first_of_book` in `src/first.rt`.
use Rattle.std.proofs.Common.{◌≡◌, length, take}
use Rattle.mpw_check.specs.Internal.First.{AreFirstSeen}
use Rattle.mpw_check.proofs.first.first_of_book.Given as goal

-- the first of each rule are those of the markers so far
abbrev pub invariant-loop-marker : goal.invariant-loop-marker
invariant-loop-marker l =
    (length l.first.counts.items ≡ l.fn.rules) × (l.first.all ≡ length l.fn.book)
    × AreFirstSeen l.fn.most (take l.marker-index l.fn.book) l.first
