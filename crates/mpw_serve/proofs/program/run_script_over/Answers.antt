-- Answers to the goals of `run_script_over` in `src/program.rt`.
use Rattle.mpw_serve.proofs.StatusLemmas.{failed_exits}
use Rattle.mpw_serve.proofs.program.run_script_over.Goals as goal

pub returns-clause-status : goal.returns-clause-status
returns-clause-status g c = (c.serve-ended.result, c.serve-ended.ensures, c.exit.ensures)

pub returns-clause-failed : goal.returns-clause-failed
returns-clause-failed g c = failed_exits _ _ _ _
    (c.serve-ended.result, c.serve-ended.ensures, c.exit.ensures)
