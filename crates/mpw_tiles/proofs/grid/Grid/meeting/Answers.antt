-- Answers to the goals of `Grid::meeting` in `src/grid.rt`.
use Rattle.std.proofs.Common.{ℕ, ◌<◌, sym, subst}
use Rattle.std.specs.Prelude.{pos, ◌+ℤ◌, ◌-ℤ◌, ◌↔◌}
use Rattle.mpw_tiles.specs.declared.grid.Block.{Block}
use Rattle.mpw_tiles.specs.Grid.{Cells, columns, rows, IsInBlock, ShareSquare, window_at}
use Rattle.mpw_tiles.proofs.Windows.{block_meets, same_overlaps}
use Rattle.mpw_tiles.proofs.Scalars.{handed_is, handed_coordinate, below_is, above_is, wide_stretch}
use Rattle.mpw_tiles.proofs.grid.Grid.meeting.Goals as goal

pub span-column0-requires-clause-origin : goal.span-column0-requires-clause-origin
span-column0-requires-clause-origin c = handed_coordinate _ c.self.invariant.plane.x0

pub span-column0-requires-clause-stretch : goal.span-column0-requires-clause-stretch
span-column0-requires-clause-stretch c =
    wide_stretch _ _ _ c.requires.plane.x0 c.requires.plane.x1 c.requires.area.width
    c.requires.margin

pub span-row0-requires-clause-origin : goal.span-row0-requires-clause-origin
span-row0-requires-clause-origin c = handed_coordinate _ c.self.invariant.plane.y0

pub span-row0-requires-clause-stretch : goal.span-row0-requires-clause-stretch
span-row0-requires-clause-stretch c =
    wide_stretch _ _ _ c.requires.plane.y0 c.requires.plane.y1 c.requires.area.height
    c.requires.margin

pub returns-clause-exact : goal.returns-clause-exact
returns-clause-exact c = λ column row u v.
    let g : Cells = record { extent = c.self.inside.extent; side = c.self.inside.side } in
    let u' : column < c.self.inside.columns = subst (λ (n : ℕ). column < n)
    (sym c.self.invariant.columns_are)
    (subst (λ (g : Cells). column < columns g) (sym c.self.view_is) u) in
    let v' : row < c.self.inside.rows = subst (λ (n : ℕ). row < n) (sym c.self.invariant.rows_are)
    (subst (λ (g : Cells). row < rows g) (sym c.self.view_is) v) in
    let block : Block = record {
      column0 = c.span-column0.result.0;
      column1 = c.span-column0.result.1;
      row0 = c.span-row0.result.0;
      row1 = c.span-row0.result.1;
    } in
    let plane = c.requires.plane in
    let margin = c.requires.margin in
    subst (λ (g : Cells). IsInBlock block column row
    ↔ ShareSquare (window_at g c.args.margin column row) c.args.b) c.self.view_is
    (block_meets g c.args.margin block c.args.b column row c.self.invariant.side c.requires.area
    (same_overlaps _ c.self.inside.extent.x0 _ (c.args.b.x0 -ℤ pos c.args.margin) _
    (c.args.b.x1 +ℤ pos c.args.margin) _ c.self.inside.side column
    (handed_is _ c.self.invariant.plane.x0) (below_is _ _ plane.x0 margin)
    (above_is _ _ plane.x1 margin) (c.span-column0.ensures.exact column u'))
    (same_overlaps _ c.self.inside.extent.y0 _ (c.args.b.y0 -ℤ pos c.args.margin) _
    (c.args.b.y1 +ℤ pos c.args.margin) _ c.self.inside.side row
    (handed_is _ c.self.invariant.plane.y0) (below_is _ _ plane.y0 margin)
    (above_is _ _ plane.y1 margin) (c.span-row0.ensures.exact row v')))
