-- Answers to the goals of `Grid::row_at` in `src/grid.rt`.
use Rattle.std.proofs.Common.{rules, arith}
use Rattle.mpw_tiles.specs.Grid.{rows}
use Rattle.mpw_tiles.proofs.Cells.{IsBelow, counted_below, found_rows, rows_few}
use Rattle.mpw_tiles.proofs.grid.Grid.row_at.Goals as goal

below : (c : goal.After-sides_between) → IsBelow rows c.args.self.now c.sides_between.result
below c =
    counted_below rows (λ g. g.extent.y0) (λ p. p.y) found_rows rows_few _ _ c.args.p _ _ _
    c.self.view_is c.self.invariant c.requires (search rules) (search rules) c.sides_between.ensures

pub overflow_cast-result : goal.overflow_cast-result
overflow_cast-result c = let h = (below c).numbered in omega arith

pub returns-clause-within : goal.returns-clause-within
returns-clause-within c = (below c).within
