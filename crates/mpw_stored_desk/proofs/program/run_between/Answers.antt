-- Answers to the goals of `run_between` in `src/program.rt`.
use Rattle.mpw_stored_desk.proofs.program.run_between.Goals as goal

pub returns : goal.returns
returns g c = (_, c.run_script_over_store.ensures)
