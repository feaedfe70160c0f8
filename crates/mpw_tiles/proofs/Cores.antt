-- The cores of a grid as boxes, and how far they extend.
use Rattle.std.proofs.Common.{◌≡◌, ℕ, ◌+◌, ◌*◌, ◌/◌, ◌%◌, ◌^◌, ◌≤◌, ◌<◌, ◌∙◌, sym, ap, subst, arith}
use Rattle.std.specs.Prelude.{ℤ, pos, ◌+ℤ◌, ◌<ℤ◌}
use Rattle.std.specs.Int.{int_max}
use Rattle.std.proofs.lemmas.Int.{ints, clamps}
use Rattle.mpw_geom.proofs.Boxes.{same_box}
use Rattle.mpw_geom.specs.declared.plane.Box2.{Box2}
use Rattle.mpw_geom.specs.Plane.{Square, HasArea, IsCoordinate}
use Rattle.mpw_geom.proofs.Tests.{SquareIn-from_test, test_from_SquareIn}
use Rattle.mpw_tiles.specs.Grid.{Cells, columns, rows, cells, core_at, core_of, column_of, row_of, ShareSquare, IsGrid, IsBoxWithin}
use Rattle.mpw_tiles.proofs.Intervals.{begins_within}
use Rattle.mpw_tiles.proofs.Cells.{column_within, row_within}

column_short : (g : Cells) (n k column : ℕ) → IsGrid g n k → column < columns g
    → column * g.side ≤ 2 ^ 49
unfolding columns
column_short g n k column h u =
    let p = begins_within g.extent.x0 g.extent.x1 g.side column h.side h.ordered.x u in
    let l = h.plane.x0.low in
    let r = h.plane.x1.high in
    omega (arith, ints)

row_short : (g : Cells) (n k row : ℕ) → IsGrid g n k → row < rows g → row * g.side ≤ 2 ^ 49
unfolding rows
row_short g n k row h u =
    let p = begins_within g.extent.y0 g.extent.y1 g.side row h.side h.ordered.y u in
    let l = h.plane.y0.low in
    let r = h.plane.y1.high in
    omega (arith, ints)

-- where a core begins along one axis, as the code computes it: n sides from its lowest coordinate
pub record Begins (low : Cells → ℤ) (place : Cells → ℕ → ℕ) (kept seen : Cells) (cell n : ℕ) :
    Type 0 where
  pub short : n * kept.side ≤ 2 ^ 49
  pub plane : IsCoordinate (low kept)
  pub is : low kept +ℤ pos (n * kept.side) ≡ low seen +ℤ pos (place seen cell * seen.side)
  pub seen_short : place seen cell * seen.side ≤ 2 ^ 49

begins : (low : Cells → ℤ) (place : Cells → ℕ → ℕ) (kept seen : Cells) (cell n : ℕ) → kept ≡ seen
    → n ≡ place kept cell → place kept cell * kept.side ≤ 2 ^ 49 → IsCoordinate (low kept)
    → Begins low place kept seen cell n
begins low place kept seen cell n is e h plane =
    subst (λ (g : Cells). Begins low place kept g cell n) is (record {
      short = subst (λ (m : ℕ). m * kept.side ≤ 2 ^ 49) (sym e) h;
      plane = plane;
      is = ap (λ (m : ℕ). low kept +ℤ pos (m * kept.side)) e;
      seen_short = h;
    })

abbrev pub BeginsLeft : (kept seen : Cells) (cell n : ℕ) → Type 0
BeginsLeft = Begins (λ g. g.extent.x0) column_of

abbrev pub BeginsBelow : (kept seen : Cells) (cell n : ℕ) → Type 0
BeginsBelow = Begins (λ g. g.extent.y0) row_of

pub begins_left : (kept seen : Cells) (n k cell : ℕ) → kept ≡ seen → IsGrid kept n k
    → BeginsLeft kept seen cell (cell % n)
begins_left kept seen n k cell is h =
    begins (λ g. g.extent.x0) column_of kept seen cell (cell % n) is
    (ap (λ (m : ℕ). cell % m) h.columns_are)
    (column_short kept n k (column_of kept cell) h (column_within kept cell)) h.plane.x0

pub begins_below : (kept seen : Cells) (n k cell : ℕ) → kept ≡ seen → IsGrid kept n k
    → cell < cells seen → BeginsBelow kept seen cell (cell / n)
begins_below kept seen n k cell is h u =
    begins (λ g. g.extent.y0) row_of kept seen cell (cell / n) is
    (ap (λ (m : ℕ). cell / m) h.columns_are)
    (row_short kept n k (row_of kept cell) h (row_within kept cell
    (subst (λ (g : Cells). cell < cells g) (sym is) u))) h.plane.y0

pub begins_at : (low : Cells → ℤ) (place : Cells → ℕ → ℕ) (kept seen : Cells) (cell n : ℕ) (z : ℤ)
    → Begins low place kept seen cell n → z ≡ low kept +ℤ pos (n * kept.side)
    → z ≡ low seen +ℤ pos (place seen cell * seen.side)
begins_at low place kept seen cell n z b e = e ∙ b.is

-- the core of a cell, by where it begins
pub core_is : (g : Cells) (cell : ℕ) (b : Box2) (x y : ℤ)
    → x ≡ g.extent.x0 +ℤ pos (column_of g cell * g.side)
    → y ≡ g.extent.y0 +ℤ pos (row_of g cell * g.side) → b.x0 ≡ x → b.y0 ≡ y
    → b.x1 ≡ x +ℤ pos g.side → b.y1 ≡ y +ℤ pos g.side → b ≡ core_of g cell
unfolding core_at
core_is g cell b x y e f p q r s =
    same_box b (core_of g cell) (p ∙ e) (q ∙ f) (r ∙ ap (λ (z : ℤ). z +ℤ pos g.side) e)
    (s ∙ ap (λ (z : ℤ). z +ℤ pos g.side) f)

-- a core exceeds the extent by at most a side
pub core_near : (g : Cells) (n k cell m : ℕ) → IsGrid g n k → cell < cells g
    → IsBoxWithin m g.extent → IsBoxWithin (m + 2 ^ 32) (core_of g cell)
unfolding core_at columns rows
core_near g n k cell m h u b =
    let p = begins_within g.extent.x0 g.extent.x1 g.side (column_of g cell) h.side h.ordered.x
    (column_within g cell) in
    let q = begins_within g.extent.y0 g.extent.y1 g.side (row_of g cell) h.side h.ordered.y
    (row_within g cell u) in
    let l = b.left in
    let r = b.right in
    let d = b.bottom in
    let t = b.top in
    let s = h.short in
    record {
      left = omega (arith, ints);
      right = omega (arith, ints);
      bottom = omega (arith, ints);
      top = omega (arith, ints);
    }

-- ---- windows that share a square with a box

pub share_from : (a b : Box2) → a.x0 <ℤ a.x1 → a.y0 <ℤ a.y1 → HasArea b → a.x0 <ℤ b.x1
    → b.x0 <ℤ a.x1 → a.y0 <ℤ b.y1 → b.y0 <ℤ a.y1 → ShareSquare a b
share_from a b w h g l r d u =
    let s : Square = record { column = int_max a.x0 b.x0; row = int_max a.y0 b.y0 } in
    let p = g.width in
    let q = g.height in
    record {
      square = s;
      first = test_from_SquareIn a s (record {
        left = omega (arith, ints, clamps);
        right = omega (arith, ints, clamps);
        bottom = omega (arith, ints, clamps);
        top = omega (arith, ints, clamps);
      });
      second = test_from_SquareIn b s (record {
        left = omega (arith, ints, clamps);
        right = omega (arith, ints, clamps);
        bottom = omega (arith, ints, clamps);
        top = omega (arith, ints, clamps);
      });
    }

pub from_share : (a b : Box2) → ShareSquare a b → ((a.x0 <ℤ b.x1) × (b.x0 <ℤ a.x1))
    × ((a.y0 <ℤ b.y1) × (b.y0 <ℤ a.y1))
from_share a b h =
    let p = SquareIn-from_test a h.square h.first in
    let q = SquareIn-from_test b h.square h.second in
    ((omega (arith, ints), omega (arith, ints)), (omega (arith, ints), omega (arith, ints)))
