-- Answers to the goals of `first_of_tiles` in `src/first.rt`.
use Rattle.mpw_check.proofs.FirstLemmas.{rules_there, is_first_of}
use Rattle.mpw_check.proofs.first.first_of_tiles.Goals as goal

pub first_of_book-requires : goal.first_of_book-requires
first_of_book-requires g c =
    rw (c.as_slice.ensures.markers, c.as_slice-rules.ensures, c.rules.ensures, c.deck.ensures)
    (rules_there c.args.snapshot.now c.in_ok-book.book c.in_ok-book.ensures)

pub returns : goal.returns
returns g c =
    is_first_of c.args.most c.args.snapshot.now c.in_ok-book.book c.first_of_book.result
    c.in_ok-book.ensures
    (rw (
      ← c.as_slice.ensures.markers,
      ← c.deck.ensures,
      ← c.rules.ensures,
      ← c.as_slice-rules.ensures,
    ) c.first_of_book.ensures)
