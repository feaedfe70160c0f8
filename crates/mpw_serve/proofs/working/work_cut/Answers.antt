-- Answers to the goals of `work_cut` in `src/working.rt`.
use Rattle.mpw_serve.specs.Working.{WorksCut}
use Rattle.mpw_serve.proofs.working.work_cut.Goals as goal

pub returns-in_default : goal.returns-in_default
returns-in_default g c = WorksCut.uncut
