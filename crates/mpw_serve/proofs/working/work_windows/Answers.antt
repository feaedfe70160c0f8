-- Answers to the goals of `work_windows` in `src/working.rt`.
use Rattle.mpw_serve.specs.Working.{WorksCut}
use Rattle.mpw_serve.proofs.HandingLemmas.{cut_kept, cut_unkept}
use Rattle.mpw_serve.proofs.working.work_windows.Goals as goal

pub returns-in_default : goal.returns-in_default
returns-in_default g c = WorksCut.uncut

pub returns-then-hand_cut : goal.returns-then-hand_cut
returns-then-hand_cut g c =
    cut_kept _ c.in-Ok.copy c.args.answer.now c.get.result.now c.hand_cut.result _ _ c.in-Ok.ensures
    c.get.ensures c.hand_cut.ensures c.if-hand_cut.true c.work_tiles.ensures

pub returns-else-hand_cut : goal.returns-else-hand_cut
returns-else-hand_cut g c = cut_unkept _ c.in-Ok.copy c.args.answer.now c.hand_cut.result _
    c.in-Ok.ensures c.hand_cut.ensures c.if-hand_cut.false
