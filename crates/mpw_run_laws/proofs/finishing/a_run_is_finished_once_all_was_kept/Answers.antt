-- Answers to the goals of `a_run_is_finished_once_all_was_kept` in `src/finishing.rt`.
use Rattle.mpw_run_laws.proofs.Followed.{finished_exactly}
use Rattle.mpw_run_laws.proofs.finishing.a_run_is_finished_once_all_was_kept.Goals as goal

pub returns : goal.returns
returns c = finished_exactly
