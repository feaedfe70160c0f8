-- Answers to the goals of `Run::check_begun` in `src/run.rt`.
use Rattle.std.proofs.Common.{ap, ◌∙◌}
use Rattle.mpw_run.specs.Step.{new_tiles}
use Rattle.mpw_run.proofs.Answering.{cut_is}
use Rattle.mpw_run.proofs.run.Run.check_begun.Goals as goal

pub returns : goal.returns
returns c =
    cut_is c.args.self.now c.args.planned.now c.args.answer.now c.in_ok-windows.windows
    c.in_ok-tiles.tiles
    c.requires.phase c.is_counted.ensures c.is_run.ensures c.requires.snapshot c.is_answer.ensures
    (c.in_ok-windows.ensures ∙ c.windows.ensures)
    (c.in_ok-tiles.ensures ∙ ap new_tiles c.total.ensures)
