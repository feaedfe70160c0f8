-- Answers to the goals of `lines_of_the_sign_off_are_of_readable_cells` in `src/sign_off.rt`.
use Rattle.mpw_laws.proofs.SignOffReadable.{lines_may}
use Rattle.mpw_laws.proofs.sign_off.lines_of_the_sign_off_are_of_readable_cells.Goals as goal

pub returns : goal.returns
returns c = lines_may
