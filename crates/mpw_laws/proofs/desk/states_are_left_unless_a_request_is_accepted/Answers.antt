-- Answers to the goals of `states_are_left_unless_a_request_is_accepted` in `src/desk.rt`.
use Rattle.mpw_laws.proofs.RefusalLemmas.{negative_request}
use Rattle.mpw_laws.proofs.desk.states_are_left_unless_a_request_is_accepted.Goals as goal

pub returns : goal.returns
returns c = negative_request
