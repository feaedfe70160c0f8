-- Answers to the goals of `every_state_counts_its_runs` in `src/laws.rt`.
use Rattle.mpw_core.proofs.CountLemmas.{few-history}
use Rattle.mpw_core.proofs.laws.every_state_counts_its_runs.Goals as goal

pub returns : goal.returns
returns c = λ officer digest calls. (few-history c.a_request_counts_one_run_at_most.ensures
    c.a_request_hands_nothing_out.ensures officer digest calls).0
