-- Answers to the goals of `Box2::meets` in `src/plane.rt`.
use Rattle.std.proofs.Common.{◌∙◌, sym}
use Rattle.std.proofs.lemmas.Bool.{both_ways}
use Rattle.mpw_geom.proofs.Meets.{common_point, spans_from_point}
use Rattle.mpw_geom.proofs.plane.Box2.meets.Goals as goal

pub returns-then-shares_column : goal.returns-then-shares_column
returns-then-shares_column c =
    let b = c.args.self in
    let d = c.args.other in
    let column = sym c.shares_column.ensures ∙ c.if-shares_column.true in
    let row = c.shares_row.ensures in
    (λ h. common_point b d column (sym row ∙ h), λ h. row ∙ (spans_from_point b d h).1)

pub returns-else-shares_column : goal.returns-else-shares_column
returns-else-shares_column c =
    let b = c.args.self in
    let d = c.args.other in
    let column = c.shares_column.ensures in
    (λ h. absurd (both_ways _ c.if-shares_column.false h), λ h. column ∙ (spans_from_point b d h).0)
