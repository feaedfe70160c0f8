-- Answers to the goals of `only_open_is_answered_for_a_login` in `src/desk.rt`.
use Rattle.mpw_laws.proofs.LoginLemmas.{denied_alone, opened_alone}
use Rattle.mpw_laws.proofs.desk.only_open_is_answered_for_a_login.Goals as goal

pub returns : goal.returns
returns c = let lacked = c.entering_is_by_the_need.ensures.lacks in
    record { login = denied_alone lacked; opened = opened_alone lacked }
