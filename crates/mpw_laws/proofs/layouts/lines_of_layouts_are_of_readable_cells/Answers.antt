-- Answers to the goals of `lines_of_layouts_are_of_readable_cells` in `src/layouts.rt`.
use Rattle.mpw_laws.proofs.ReadableLines.{readable_layouts}
use Rattle.mpw_laws.proofs.layouts.lines_of_layouts_are_of_readable_cells.Goals as goal

pub returns : goal.returns
returns c = readable_layouts c.shelves_have_their_numbers.ensures.cells
