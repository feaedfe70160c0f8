-- Answers to the goals of `Grid::cell_of` in `src/grid.rt`.
use Rattle.std.proofs.Common.{◌≡◌, ℕ, ◌+◌, ◌*◌, ◌∙◌, sym, ap, subst}
use Rattle.mpw_geom.specs.declared.plane.Point.{Point}
use Rattle.mpw_tiles.specs.Grid.{Cells, columns, sides_between, found_cell, IsOnlyCell}
use Rattle.mpw_tiles.proofs.Cells.{only_cell}
use Rattle.mpw_tiles.proofs.grid.Grid.cell_of.Goals as goal

found : (g : Cells) (p : Point) (column row n : ℕ) → n ≡ row * columns g + column
    → column ≡ sides_between g.side g.extent.x0 p.x → row ≡ sides_between g.side g.extent.y0 p.y
    → n ≡ found_cell g p
unfolding found_cell
found g p column row n e f k =
    e ∙ ap (λ (r : ℕ). r * columns g + column) k
    ∙ ap (λ (d : ℕ). sides_between g.side g.extent.y0 p.y * columns g + d) f

pub returns-clause-found : goal.returns-clause-found
returns-clause-found c =
    found c.args.self.now c.args.p c.column_at.result c.row_at.result c.cell.result
    c.cell.ensures.number c.column_at.ensures.place c.row_at.ensures.place

pub returns-clause-only : goal.returns-clause-only
returns-clause-only c =
    subst (λ (n : ℕ). IsOnlyCell c.args.self.now c.args.p n) (sym (returns-clause-found c))
    (only_cell c.args.self.now c.args.p c.column_at.ensures.side c.requires)
