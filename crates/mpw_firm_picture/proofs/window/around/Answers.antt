-- Answers to the goals of `around` in `src/window.rt`.
use Rattle.mpw_firm_picture.proofs.Windows.{widened_lies}
use Rattle.mpw_firm_picture.proofs.window.around.Goals as goal

pub returns-clause-plane : goal.returns-clause-plane
returns-clause-plane c = rw c.wider_box.ensures (widened_lies _ _)
