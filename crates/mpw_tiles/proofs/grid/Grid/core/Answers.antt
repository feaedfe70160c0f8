-- Answers to the goals of `Grid::core` in `src/grid.rt`.
use Rattle.std.proofs.Common.{◌<◌, ◌+◌, ◌^◌, ◌∙◌, ap, sym, subst}
use Rattle.std.specs.Prelude.{ℤ, pos, neg_ℤ, ◌+ℤ◌, ◌≤ℤ◌}
use Rattle.mpw_geom.specs.declared.plane.Box2.{Box2}
use Rattle.mpw_geom.specs.Plane.{IsCoordinate}
use Rattle.mpw_tiles.specs.Grid.{Cells, cells, core_of, IsBoxWithin}
use Rattle.mpw_tiles.proofs.Cores.{core_is, core_near}
use Rattle.mpw_tiles.proofs.Scalars.{Side, side_of}
use Rattle.mpw_tiles.proofs.grid.Grid.core.Goals as goal

across : (c : goal.After-from-side) → Side c.left_of-x0.result c.from-side.result
across c =
    side_of _ _ _ _ _
    (subst (λ (g : Cells). IsCoordinate g.extent.x0) c.self.view_is c.self.invariant.plane.x0)
    c.left_of-x0.ensures.place c.left_of-x0.ensures.short c.from-side.ensures
    c.self.invariant.short

up : (c : goal.After-from-side) → Side c.bottom_of-y0.result c.from-side.result
up c =
    side_of _ _ _ _ _
    (subst (λ (g : Cells). IsCoordinate g.extent.y0) c.self.view_is c.self.invariant.plane.y0)
    c.bottom_of-y0.ensures.place c.bottom_of-y0.ensures.short c.from-side.ensures
    c.self.invariant.short

pub overflow_add-result : goal.overflow_add-result
overflow_add-result c = (across c).fits

pub overflow_add-result-2 : goal.overflow_add-result-2
overflow_add-result-2 c = (up c).fits

pub returns-clause-core : goal.returns-clause-core
returns-clause-core c =
    let x = across c in
    let y = up c in
    let long = c.from-side.ensures ∙ ap (λ (g : Cells). pos g.side) c.self.view_is in
    core_is c.args.self.now c.args.cell _ c.left_of-x0.result c.bottom_of-y0.result
    c.left_of-x0.ensures.place c.bottom_of-y0.ensures.place x.start_is y.start_is
    (x.end_is ∙ ap (λ (z : ℤ). c.left_of-x0.result +ℤ z) long)
    (y.end_is ∙ ap (λ (z : ℤ). c.bottom_of-y0.result +ℤ z) long)

pub returns-clause-reach : goal.returns-clause-reach
returns-clause-reach c =
    let x = across c in
    let y = up c in
    record {
      left = subst (λ (z : ℤ). neg_ℤ (pos (2 ^ 50)) ≤ℤ z) (sym x.start_is) x.near;
      right = subst (λ (z : ℤ). z ≤ℤ pos (2 ^ 50)) (sym x.end_is) x.within;
      bottom = subst (λ (z : ℤ). neg_ℤ (pos (2 ^ 50)) ≤ℤ z) (sym y.start_is) y.near;
      top = subst (λ (z : ℤ). z ≤ℤ pos (2 ^ 50)) (sym y.end_is) y.within;
    }

pub returns-clause-near : goal.returns-clause-near
returns-clause-near c = λ m b.
    let g : Cells = record { extent = c.self.inside.extent; side = c.self.inside.side } in
    let u : c.args.cell < cells g = subst (λ (g : Cells). c.args.cell < cells g)
    (sym c.self.view_is) c.requires in
    let b' : IsBoxWithin m g.extent = subst (λ (g : Cells). IsBoxWithin m g.extent)
    (sym c.self.view_is) b in
    subst (λ (x : Box2). IsBoxWithin (m + 2 ^ 32) x) (sym (returns-clause-core c))
    (subst (λ (g : Cells). IsBoxWithin (m + 2 ^ 32) (core_of g c.args.cell)) c.self.view_is
    (core_near g c.self.inside.columns c.self.inside.rows c.args.cell m c.self.invariant u b'))
