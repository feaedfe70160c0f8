-- Answers to the goals of `rows_add_their_changes` in `src/laws.rt`.
use Rattle.mpw_store_restoring.proofs.ChangeLemmas.{row_adds, restart_adds}
use Rattle.mpw_store_restoring.proofs.laws.rows_add_their_changes.Goals as goal

pub returns-clause-rows : goal.returns-clause-rows
returns-clause-rows c = row_adds

pub returns-clause-restarts : goal.returns-clause-restarts
returns-clause-restarts c = restart_adds
