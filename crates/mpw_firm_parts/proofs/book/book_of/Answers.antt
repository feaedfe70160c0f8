-- Answers to the goals of `book_of` in `src/book.rt`.
use Rattle.mpw_columns_keys.specs.Keys.{together}
use Rattle.mpw_firm_parts.proofs.Bound.{firsts_ascend}
use Rattle.mpw_firm_parts.proofs.book.book_of.Goals as goal

pub is_book-requires : goal.is_book-requires
is_book-requires c =
    rw (c.as_slice.ensures.value, c.in_ok-markers.ensures)
    (firsts_ascend (together c.args.rules c.args.upright.now c.args.across.now))
