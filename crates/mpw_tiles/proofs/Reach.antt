-- How far windows extend.
use Rattle.std.proofs.Common.{ℕ, ◌+◌, ◌≤◌, ◌<◌, arith}
use Rattle.std.proofs.lemmas.Int.{ints}
use Rattle.mpw_geom.specs.Plane.{IsOrdered}
use Rattle.mpw_tiles.specs.Grid.{Cells, cells, columns, rows, core_at, column_of, row_of, window_of, IsBoxWithin}
use Rattle.mpw_tiles.proofs.Intervals.{begins_within}
use Rattle.mpw_tiles.proofs.Cells.{column_within, row_within}

pub window_reach : (g : Cells) (margin cell m : ℕ) → 1 ≤ g.side → IsOrdered g.extent
    → cell < cells g → IsBoxWithin m g.extent
    → IsBoxWithin (m + g.side + margin) (window_of g margin cell)
unfolding core_at columns rows
window_reach g margin cell m h o u b =
    let p = begins_within g.extent.x0 g.extent.x1 g.side (column_of g cell) h o.x
    (column_within g cell) in
    let q =
    begins_within g.extent.y0 g.extent.y1 g.side (row_of g cell) h o.y (row_within g cell u) in
    let l = b.left in
    let r = b.right in
    let d = b.bottom in
    let t = b.top in
    record {
      left = omega (arith, ints);
      right = omega (arith, ints);
      bottom = omega (arith, ints);
      top = omega (arith, ints);
    }
