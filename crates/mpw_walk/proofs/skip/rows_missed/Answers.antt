-- Answers to the goals of `rows_missed` in `src/skip.rt`.
use Rattle.std.proofs.Common.{rules, ◌≡◌, ◌<◌, pos, w64, SFits, sym, subst}
use Rattle.std.proofs.lemmas.Int.{to_z-of_z}
use Rattle.mpw_walk.specs.Internal.Skips.{MissRows}
use Rattle.mpw_walk.proofs.Skipping.{SpansMissed, MissAlong, x_of, y_of, miss_rows}
use Rattle.mpw_walk.proofs.skip.rows_missed.Goals as goal

pub returns-clause-missed : goal.returns-clause-missed
returns-clause-missed c =
    let there = c.args.there in
    let window = c.args.window in
    let across = c.args.across in
    let up = c.args.up in
    let n = c.rows_along-x.result in
    let m = c.rows_along-y.result in
    let fx : SFits w64 c.args.across.x = search rules in
    let fy : SFits w64 c.args.across.y = search rules in
    let gx : SFits w64 c.args.up.x = search rules in
    let gy : SFits w64 c.args.up.y = search rules in
    let still_x : 0 < n → c.args.across.x ≡ pos 0 =
    λ some. simp to_z-of_z at (c.rows_along-x.ensures.still some) in
    let still_y : 0 < m → c.args.across.y ≡ pos 0 =
    λ some. simp to_z-of_z at (c.rows_along-y.ensures.still some) in
    let xs : SpansMissed c.span_x.result c.span_x-2.result c.args.up.x n =
    λ k lt. simp to_z-of_z at (c.rows_along-x.ensures.missed k lt) in
    let ys : SpansMissed c.span_y.result c.span_y-2.result c.args.up.y m =
    λ k lt. simp to_z-of_z at (c.rows_along-y.ensures.missed k lt) in
    let x = subst (λ a. MissAlong a (x_of window) across.x up.x n) c.span_x.ensures
    (subst (λ b. MissAlong c.span_x.result b across.x up.x n) c.span_x-2.ensures (still_x, xs)) in
    let y = subst (λ a. MissAlong a (y_of window) across.y up.y m) c.span_y.ensures
    (subst (λ b. MissAlong c.span_y.result b across.y up.y m) c.span_y-2.ensures (still_y, ys)) in
    subst (MissRows there window across up) (sym c.max.ensures)
    (miss_rows there window across up n m x y)
