-- Answers to the goals of `lines_of_markers_are_of_readable_cells` in `src/checking.rt`.
use Rattle.mpw_laws.proofs.CheckingReadable.{lines_may}
use Rattle.mpw_laws.proofs.checking.lines_of_markers_are_of_readable_cells.Goals as goal

pub returns : goal.returns
returns c = lines_may c.lines_of_books_are_of_readable_cells.ensures
