-- Answers to the goals of `denials_name_what_the_session_lacks` in `src/desk.rt`.
use Rattle.mpw_laws.proofs.DenialLemmas.{lacks-permission, lacks-role, lacks-session}
use Rattle.mpw_laws.proofs.desk.denials_name_what_the_session_lacks.Goals as goal

pub returns : goal.returns
returns c = let lacked = c.entering_is_by_the_need.ensures.lacks in
    let layouts = c.denials_of_layouts_name_what_is_lacked.ensures in
    record {
      session = lacks-session lacked;
      permission = lacks-permission lacked layouts;
      activation = lacks-role lacked layouts;
    }
