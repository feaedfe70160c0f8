-- Answers to the goals of `restarts_take_back_answers` in `src/restarts.rt`.
use Rattle.mpw_run_laws.proofs.RestartLemmas.{takes_back, only_restarts}
use Rattle.mpw_run_laws.proofs.restarts.restarts_take_back_answers.Goals as goal

pub returns : goal.returns
returns c = record { so = takes_back; only = only_restarts }
