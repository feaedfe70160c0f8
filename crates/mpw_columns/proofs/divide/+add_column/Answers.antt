-- Answers to the goals of `add_column` in `src/divide.rt`.
use Rattle.std.proofs.Common.{List, arith, subst}
use Rattle.std.proofs.lemmas.Result.{on_ok_weaker}
use Rattle.mpw_geom.specs.declared.plane.Box2.{Box2}
use Rattle.mpw_tiles.specs.declared.listing.Rectangle.{Rectangle}
use Rattle.mpw_job.specs.Answers.{listed_on}
use Rattle.mpw_columns.specs.Internal.Found.{AddsFound, AgreeAll}
use Rattle.mpw_columns.proofs.Dividing.{halves_made, upright_left, upright_right}
use Rattle.mpw_columns.proofs.divide.+add_column.Goals as goal

pub window_of-requires : goal.window_of-requires
window_of-requires t c = upright_left c.args.core.now c.halves.result.0 c.middle.result.x
    c.requires.upright c.middle.ensures.low c.middle.ensures.high c.halves.ensures.left

pub window_of-requires-2 : goal.window_of-requires-2
window_of-requires-2 t c = upright_right c.args.core.now c.halves.result.1 c.middle.result.x
    c.requires.upright c.middle.ensures.low c.middle.ensures.high c.halves.ensures.right

pub add_column-requires : goal.add_column-requires
add_column-requires t c = (
  omega (arith, c.decreases, c.if-depth-eq0.false),
  (
    c.requires.look,
    upright_left c.args.core.now c.halves.result.0 c.middle.result.x c.requires.upright
        c.middle.ensures.low c.middle.ensures.high c.halves.ensures.left,
  ),
)

pub add_column-requires-2 : goal.add_column-requires-2
add_column-requires-2 t c = (
  omega (arith, c.decreases, c.if-depth-eq0.false),
  (
    c.requires.look,
    upright_right c.args.core.now c.halves.result.1 c.middle.result.x c.requires.upright
        c.middle.ensures.low c.middle.ensures.high c.halves.ensures.right,
  ),
)

pub returns : goal.returns
returns t c =
    let look = c.args.look.now in
    let listed = c.args.rectangles.now in
    let low = c.in_ok-low.low.items in
    let high = c.in_ok-high.high.items in
    let left = c.halves.result.0 in
    let right = c.halves.result.1 in
    let mid = c.add_column.new.keys.items in
    on_ok_weaker c.add_column-2.result
    (λ h. halves_made look.rules.now look.layers.now look.distance look.axis listed low high
    c.args.core.now c.middle.result.x left right c.args.keys.now.items mid
    c.add_column-2.new.keys.items c.requires.look
    (record {
      no_less = c.middle.ensures.low;
      no_more = c.middle.ensures.high;
      left_is = c.halves.ensures.left;
      right_is = c.halves.ensures.right;
      low_agrees = subst (λ (w : Box2). AgreeAll w (listed_on listed) (listed_on low))
          c.window_of.ensures c.in_ok-low.ensures;
      high_agrees = subst (λ (w : Box2). AgreeAll w (listed_on listed) (listed_on high))
          c.window_of-2.ensures c.in_ok-high.ensures;
    })
    (subst (λ (rs : List Rectangle). AddsFound look.rules.now look.axis (listed_on rs) left
    c.args.keys.now.items mid) c.as_slice-3.ensures.value c.in_ok-add_column.ensures)
    (subst (λ (rs : List Rectangle). AddsFound look.rules.now look.axis (listed_on rs) right mid
    c.add_column-2.new.keys.items) c.as_slice-4.ensures.value h))
    c.add_column-2.ensures
