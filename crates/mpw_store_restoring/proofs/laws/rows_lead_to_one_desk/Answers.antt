-- Answers to the goals of `rows_lead_to_one_desk` in `src/laws.rt`.
use Rattle.mpw_store_restoring.proofs.RowLemmas.{lead_to_one}
use Rattle.mpw_store_restoring.proofs.laws.rows_lead_to_one_desk.Goals as goal

pub returns : goal.returns
returns c = lead_to_one
