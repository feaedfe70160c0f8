-- Answers to the goals of `rectangles_of` in `src/shared.rt`.
use Rattle.std.proofs.Common.{◌∙◌, ◌+◌, List, ap, subst, IfSome}
use Rattle.std.proofs.lemmas.Result.{IfOk-weaker}
use Rattle.mpw_geom.specs.declared.plane.Box2.{Box2}
use Rattle.mpw_tiles.specs.declared.listing.Rectangle.{Rectangle}
use Rattle.mpw_job.specs.Answers.{listed_on}
use Rattle.mpw_columns_keys.specs.Columns.{across}
use Rattle.mpw_columns.specs.Internal.Checked.{IsShared}
use Rattle.mpw_columns.specs.Internal.Found.{AgreeAll}
use Rattle.mpw_columns.proofs.Blocked.{agree_within}
use Rattle.mpw_columns.proofs.shared.rectangles_of.Goals as goal

pub returns-in-Some : goal.returns-in-Some
returns-in-Some c =
    let l = c.args.layout.now in
    let shared = c.in-Some.shared in
    let holds = subst (λ o. IfSome o (IsShared l)) c.in-Some.is c.requires.shared in
    let window = c.window_of-window.result in
    IfOk-weaker c.parts_in.result _ _ (λ v agree.
    agree_within l c.args.column.now shared.whole shared.rectangles.items v.items window
    (c.is_part.ensures c.if-is_part.true) holds
    (c.window_of-window.ensures ∙ ap (λ (b : Box2). across b (l.distance + 1)) c.core_of-core.ensures)
    (subst (λ (rs : List Rectangle). AgreeAll window (listed_on rs) (listed_on v.items)) c.as_slice.ensures.value agree))
    c.parts_in.ensures
