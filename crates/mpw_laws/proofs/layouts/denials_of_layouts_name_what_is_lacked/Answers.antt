-- Answers to the goals of `denials_of_layouts_name_what_is_lacked` in `src/layouts.rt`.
use Rattle.mpw_laws.proofs.LayoutDenials.{layouts_deny}
use Rattle.mpw_laws.proofs.layouts.denials_of_layouts_name_what_is_lacked.Goals as goal

pub returns : goal.returns
returns c = layouts_deny
