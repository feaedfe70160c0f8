-- Answers to the goals of `Grid::window` in `src/grid.rt`.
use Rattle.std.proofs.Common.{ap, arith}
use Rattle.std.proofs.lemmas.Int.{ints}
use Rattle.mpw_geom.proofs.Boxes.{same_box}
use Rattle.mpw_geom.specs.declared.plane.Box2.{Box2}
use Rattle.mpw_tiles.proofs.grid.Grid.window.Goals as goal

pub overflow_sub-result : goal.overflow_sub-result
overflow_sub-result c =
    let m = c.requires.margin in let l = c.core-core.ensures.reach.left in omega (arith, ints)

pub overflow_sub-result-2 : goal.overflow_sub-result-2
overflow_sub-result-2 c =
    let m = c.requires.margin in let l = c.core-core.ensures.reach.bottom in omega (arith, ints)

pub overflow_add-result : goal.overflow_add-result
overflow_add-result c =
    let m = c.requires.margin in let l = c.core-core.ensures.reach.right in omega (arith, ints)

pub overflow_add-result-2 : goal.overflow_add-result-2
overflow_add-result-2 c =
    let m = c.requires.margin in let l = c.core-core.ensures.reach.top in omega (arith, ints)

pub returns-clause-window : goal.returns-clause-window
returns-clause-window c =
    let m = c.requires.margin in
    let e = ap (λ (b : Box2). b.x0) c.core-core.ensures.core in
    let f = ap (λ (b : Box2). b.y0) c.core-core.ensures.core in
    let g = ap (λ (b : Box2). b.x1) c.core-core.ensures.core in
    let h = ap (λ (b : Box2). b.y1) c.core-core.ensures.core in
    let near = c.core-core.ensures.reach in
    same_box _ _ (omega (arith, ints, m, e, near.left)) (omega (arith, ints, m, f, near.bottom))
    (omega (arith, ints, m, g, near.right)) (omega (arith, ints, m, h, near.top))

pub returns-clause-near : goal.returns-clause-near
returns-clause-near c = λ k b.
    let n = c.core-core.ensures.near k b in
    let near = c.core-core.ensures.reach in
    let m = c.requires.margin in
    record {
      left = omega (arith, ints, m, n.left, near.left);
      right = omega (arith, ints, m, n.right, near.right);
      bottom = omega (arith, ints, m, n.bottom, near.bottom);
      top = omega (arith, ints, m, n.top, near.top);
    }
