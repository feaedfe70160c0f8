-- Answers to the goals of `answer_request` in `src/run/answer.rt`.
use Rattle.std.proofs.Common.{rules}
use Rattle.mpw_wafer.specs.Run.Checking.{begun}
use Rattle.mpw_wafer.proofs.run.answer.answer_request.Goals as goal

pub returns-in_ok-of_line-in-Run : goal.returns-in_ok-of_line-in-Run
returns-in_ok-of_line-in-Run c = (
  begun c.in_ok-planned-in-Run.planned,
  ((c.prepare_start.ensures.leaves, c.prepare_start.ensures.fits), search rules),
)
