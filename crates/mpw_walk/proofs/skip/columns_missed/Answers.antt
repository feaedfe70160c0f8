-- Answers to the goals of `columns_missed` in `src/skip.rt`.
use Rattle.std.proofs.Common.{rules, w64, SFits, sym, subst}
use Rattle.std.proofs.lemmas.Int.{to_z-of_z}
use Rattle.mpw_walk.specs.Internal.Skips.{MissColumns}
use Rattle.mpw_walk.proofs.Skipping.{SpansMissed, x_of, y_of, miss_columns}
use Rattle.mpw_walk.proofs.skip.columns_missed.Goals as goal

pub returns-clause-missed : goal.returns-clause-missed
returns-clause-missed c =
    let there = c.args.there in
    let window = c.args.window in
    let across = c.args.across in
    let n = c.spans_missed-x.result in
    let m = c.spans_missed-y.result in
    let f : SFits w64 c.args.across.x = search rules in
    let g : SFits w64 c.args.across.y = search rules in
    let xs : SpansMissed c.span_x.result c.span_x-2.result c.args.across.x n =
    λ k lt. simp to_z-of_z at (c.spans_missed-x.ensures.missed k lt) in
    let ys : SpansMissed c.span_y.result c.span_y-2.result c.args.across.y m =
    λ k lt. simp to_z-of_z at (c.spans_missed-y.ensures.missed k lt) in
    let x = subst (λ a. SpansMissed a (x_of window) across.x n) c.span_x.ensures
    (subst (λ b. SpansMissed c.span_x.result b across.x n) c.span_x-2.ensures xs) in
    let y = subst (λ a. SpansMissed a (y_of window) across.y m) c.span_y.ensures
    (subst (λ b. SpansMissed c.span_y.result b across.y m) c.span_y-2.ensures ys) in
    subst (MissColumns there window across) (sym c.max.ensures)
    (miss_columns there window across n m x y)
