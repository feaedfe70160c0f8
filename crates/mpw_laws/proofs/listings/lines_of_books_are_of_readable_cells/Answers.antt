-- Answers to the goals of `lines_of_books_are_of_readable_cells` in `src/listings.rt`.
use Rattle.mpw_laws.proofs.BookLines.{books_readable}
use Rattle.mpw_laws.proofs.listings.lines_of_books_are_of_readable_cells.Goals as goal

pub returns : goal.returns
returns c = books_readable
