-- Windows that share a square with a box are a block of cells.
use Rattle.std.proofs.Common.{◌≡◌, ℕ, ◌≤◌, ◌<◌, subst, arith}
use Rattle.std.specs.Prelude.{ℤ, pos, ◌+ℤ◌, ◌-ℤ◌, ◌↔◌}
use Rattle.std.proofs.lemmas.Int.{ints}
use Rattle.mpw_geom.specs.declared.plane.Box2.{Box2}
use Rattle.mpw_geom.specs.Plane.{HasArea}
use Rattle.mpw_tiles.specs.declared.grid.Block.{Block}
use Rattle.mpw_tiles.specs.Grid.{Cells, core_at, window_at, IsInBlock, ShareSquare}
use Rattle.mpw_tiles.proofs.Intervals.{Overlaps}
use Rattle.mpw_tiles.proofs.Cores.{share_from, from_share}

pub block_meets : (g : Cells) (margin : ℕ) (block : Block) (b : Box2) (column row : ℕ) → 1 ≤ g.side
    → HasArea b
    → ((block.column0 ≤ column) × (column < block.column1))
    ↔ Overlaps g.extent.x0 g.side (b.x0 -ℤ pos margin) (b.x1 +ℤ pos margin) column
    → ((block.row0 ≤ row) × (row < block.row1)) ↔ Overlaps g.extent.y0 g.side (b.y0 -ℤ pos margin)
    (b.y1 +ℤ pos margin) row
    → IsInBlock block column row ↔ ShareSquare (window_at g margin column row) b
unfolding core_at
block_meets g margin block b column row h a x y = (to, from)
  where
    to : IsInBlock block column row → ShareSquare (window_at g margin column row) b
    to i =
        let p = x.0 (i.left, i.right) in
        let q = y.0 (i.bottom, i.top) in
        let p0 = p.0 in
        let p1 = p.1 in
        let q0 = q.0 in
        let q1 = q.1 in
        share_from (window_at g margin column row) b (omega (arith, ints)) (omega (arith, ints)) a
        (omega (arith, ints)) (omega (arith, ints)) (omega (arith, ints)) (omega (arith, ints))

    from : ShareSquare (window_at g margin column row) b → IsInBlock block column row
    from s =
        let p = from_share (window_at g margin column row) b s in
        let p0 = p.0.0 in
        let p1 = p.0.1 in
        let q0 = p.1.0 in
        let q1 = p.1.1 in
        let i = x.1 (omega (arith, ints), omega (arith, ints)) in
        let j = y.1 (omega (arith, ints), omega (arith, ints)) in
        record { left = i.0; right = i.1; bottom = j.0; top = j.1 }

pub same_overlaps : (P : Type 0) (a a' low low' high high' : ℤ) (s n : ℕ) → a' ≡ a → low' ≡ low
    → high' ≡ high → P ↔ Overlaps a' s low' high' n → P ↔ Overlaps a s low high n
same_overlaps P a a' low low' high high' s n e f g h =
    subst (λ (z : ℤ). P ↔ Overlaps a s low z n) g
    (subst (λ (z : ℤ). P ↔ Overlaps a s z high' n) f
    (subst (λ (z : ℤ). P ↔ Overlaps z s low' high' n) e h))
