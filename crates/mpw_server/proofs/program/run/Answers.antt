-- Answers to the goals of `run` in `src/program.rt`.
use Rattle.std.proofs.Common.{Err, ◌∙◌}
use Rattle.mpw_server.proofs.program.run.Goals as goal

pub returns-in-Err : goal.returns-in-Err
returns-in-Err g c = (Err c.in-Err.fault, c.from.ensures ∙ c.exit_status.ensures)
