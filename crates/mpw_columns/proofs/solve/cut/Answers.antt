-- Answers to the goals of `cut` in `src/solve.rt`.
use Rattle.std.proofs.Common.{inl, inr}
use Rattle.mpw_columns.proofs.Solving.{some_weaker}
use Rattle.mpw_columns.proofs.solve.cut.Goals as goal

pub returns-then-is_row : goal.returns-then-is_row
returns-then-is_row c = some_weaker c.cut_along.result _ _ (λ h p. (_, inr p)) c.cut_along.ensures

pub returns : goal.returns
returns c = some_weaker c.cut_across.result _ _ (λ h p. (_, inl p)) c.cut_across.ensures
