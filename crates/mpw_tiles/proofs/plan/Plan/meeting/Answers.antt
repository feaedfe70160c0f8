-- Answers to the goals of `Plan::meeting` in `src/plan.rt`.
use Rattle.std.proofs.Common.{◌<◌, sym, subst}
use Rattle.std.specs.Prelude.{◌↔◌}
use Rattle.mpw_tiles.specs.Grid.{column_of, row_of, IsInBlock, ShareSquare}
use Rattle.mpw_tiles.proofs.Cells.{column_within, row_within}
use Rattle.mpw_tiles.specs.Plan.{Tiling, tiles, tile_window}
use Rattle.mpw_tiles.proofs.plan.Plan.meeting.Goals as goal

pub returns-clause-exact : goal.returns-clause-exact
returns-clause-exact c = λ tile u.
    let p : Tiling = record { grid = c.self.inside.grid; margin = c.self.inside.margin } in
    let u' : tile < tiles p = subst (λ (p : Tiling). tile < tiles p) (sym c.self.view_is) u in
    subst (λ (p : Tiling). IsInBlock c.meeting.result (column_of p.grid tile) (row_of p.grid tile)
    ↔ ShareSquare (tile_window p tile) c.args.b) c.self.view_is
    (c.meeting.ensures.exact (column_of p.grid tile) (row_of p.grid tile)
    (column_within p.grid tile) (row_within p.grid tile u'))
