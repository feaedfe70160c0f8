-- Answers to the goals of `PointsView::behind` in `src/points.rt`.
use Rattle.std.proofs.Common.{ap, sym, ◌∙◌, drop}
use Rattle.std.proofs.Math.Seq.{drop-drop}
use Rattle.mpw_structures.proofs.points.PointsView.behind.Goals as goal

pub returns : goal.returns
returns c = sym (drop-drop 1 c.self.inside.from c.self.inside.points.now) ∙ ap (drop 1) c.self.view_is
