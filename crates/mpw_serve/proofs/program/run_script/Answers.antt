-- Answers to the goals of `run_script` in `src/program.rt`.
use Rattle.std.proofs.Common.{Err}
use Rattle.mpw_serve.specs.declared.fault.ProgramFault.TheVariants.{Memory}
use Rattle.mpw_serve.proofs.program.run_script.Goals as goal

pub returns-in_default : goal.returns-in_default
returns-in_default g c = (Err Memory, c.tell.ensures)

pub returns-in_default-new : goal.returns-in_default-new
returns-in_default-new g c = (Err Memory, c.tell-in_default-new.ensures)
