-- Answers to the goals of `lines_are_of_readable_cells` in `src/desk.rt`.
use Rattle.mpw_laws.proofs.ReadableLemmas.{readable-lines}
use Rattle.mpw_laws.proofs.desk.lines_are_of_readable_cells.Goals as goal

pub returns : goal.returns
returns c = readable-lines c.lines_of_layouts_are_of_readable_cells.ensures
    c.lines_of_markers_are_of_readable_cells.ensures
    c.lines_of_the_sign_off_are_of_readable_cells.ensures
