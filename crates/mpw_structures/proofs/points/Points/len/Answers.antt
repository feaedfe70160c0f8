-- Answers to the goals of `Points::len` in `src/points.rt`.
use Rattle.std.proofs.Common.{sym, ◌∙◌}
use Rattle.mpw_structures.proofs.TextPoints.{shared_length}
use Rattle.mpw_structures.proofs.points.Points.len.Goals as goal

pub returns-in-Shared : goal.returns-in-Shared
returns-in-Shared c =
    shared_length _ _ _ _ _ (sym c.deref.ensures ∙ c.in-Shared.is) c.self.view_is
