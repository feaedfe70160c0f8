-- The sizes of a drawing: the window's longer side is 1000 pixels.
use Rattle.std.specs.Prelude.{ℕ, ◌+◌, ◌-◌, ◌*◌, ◌/◌, ◌-ℤ◌, Bool, List, [], ◌∷◌, fold, nat_le, nat_lt, if◌then◌else◌}
use Rattle.mpw_geom.specs.declared.plane.Box2.{Box2}
use Rattle.mpw_firm_picture.specs.declared.size.Corners.{Corners}
use Rattle.mpw_firm_picture.specs.Windows.{side, longer_side}

-- a length of a window in nm, in pixels, rounded up
abbrev pub pixels : Box2 → ℕ → ℕ
pixels w nm = (1000 * nm + longer_side w - 1) / longer_side w

-- the width and the height of the drawing
unfoldable pub drawing_breadth : Box2 → ℕ
drawing_breadth w = pixels w (side w.x0 w.x1)

unfoldable pub drawing_height : Box2 → ℕ
drawing_height w = pixels w (side w.y0 w.y1)

-- the line width of a marker, in nm: about 3 pixels
unfoldable pub line_breadth : Box2 → ℕ
line_breadth w = longer_side w / 300 + 1

-- the distance of the ring from the selected marker, in nm: about 10 pixels
unfoldable pub ring_margin : Box2 → ℕ
ring_margin w = longer_side w / 100 + 1

-- the position of a box of the plane in the drawing: x from the window's left edge, and y down from its top edge, since y points down there
unfoldable pub turned : Box2 → Box2 → Corners
turned w b = record {
  left = b.x0 -ℤ w.x0;
  top = w.y1 -ℤ b.y1;
  right = b.x1 -ℤ w.x0;
  bottom = w.y1 -ℤ b.y0;
}

-- whether a box is smaller than five pixels in a window
unfoldable pub is_small : Box2 → Box2 → Bool
is_small w b = nat_lt (200 * longer_side b) (longer_side w)

-- the possible lengths of a scale bar, in nm
unfoldable pub bar_lengths : List ℕ
bar_lengths =
    1 ∷ 2 ∷ 5 ∷ 10 ∷ 20 ∷ 50 ∷ 100 ∷ 200 ∷ 500 ∷ 1000 ∷ 2000 ∷ 5000 ∷ 10000 ∷ 20000 ∷ 50000 ∷ 100000
    ∷ 200000 ∷ 500000 ∷ 1000000 ∷ 2000000 ∷ 5000000 ∷ 10000000 ∷ 20000000 ∷ 50000000 ∷ 100000000
    ∷ 200000000 ∷ 500000000 ∷ []

-- the last of some lengths that is within a limit; 1 if there is none
abbrev pub last_within : ℕ → List ℕ → ℕ
last_within limit lengths = fold (λ last n. if nat_le n limit then n else last) 1 lengths

-- the scale bar's length: the greatest within a quarter of the window's longer side
unfoldable pub bar_length : Box2 → ℕ
bar_length w = last_within (longer_side w / 4) bar_lengths
