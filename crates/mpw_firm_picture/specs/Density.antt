-- Markers as a density: squares of a grid over the window, and how many markers lie in each.
use Rattle.std.specs.Prelude.{ℕ, ◌+◌, ◌-◌, ◌*◌, ◌/◌, ◌-ℤ◌, ◌==◌, min, Bool, List, [], length, map, sum, nat_lt, unsigned_abs, if◌then◌else◌}
use Rattle.std.specs.Int.{int_max}
use Rattle.std.specs.List.{filter, range_with_len}
use Rattle.mpw_geom.specs.declared.plane.Box2.{Box2}
use Rattle.mpw_firm_picture.specs.declared.picture.Mark.{Mark}
use Rattle.mpw_firm_picture.specs.Windows.{longer_side}

-- the markers of the rule at that index in the deck, in order
abbrev pub of_rule : List Mark → ℕ → List Mark
of_rule marks place = filter (λ m. m.rule == place) marks

-- how many are drawn one by one: of each of the first `rules` rules at most the limit
abbrev pub drawn_count : (limit rules : ℕ) → List Mark → ℕ
drawn_count limit rules marks =
    sum (map (λ place. min (length (of_rule marks place)) limit) (range_with_len 0 rules))

-- if there are more markers than this, they are drawn as a density
unfoldable pub most_drawn : ℕ
most_drawn = 20000

-- the side of a square, in nm: about 20 pixels. The window's longer side has 50 of them.
unfoldable pub cell_side : Box2 → ℕ
cell_side w = longer_side w / 50 + 1

-- the square in which a marker lies: that of the lower left corner of its box's part in the window. Squares are counted from the window's
-- lower left corner, to the right and then upwards.
unfoldable pub column_of : Box2 → Mark → ℕ
column_of w m = min 49 (unsigned_abs (int_max m.area.x0 w.x0 -ℤ w.x0) / cell_side w)

unfoldable pub row_of : Box2 → Mark → ℕ
row_of w m = min 49 (unsigned_abs (int_max m.area.y0 w.y0 -ℤ w.y0) / cell_side w)

unfoldable pub cell_of : Box2 → Mark → ℕ
cell_of w m = 50 * row_of w m + column_of w m

-- how many markers lie in the square with that number
abbrev pub count_in : Box2 → List Mark → ℕ → ℕ
count_in w marks cell = length (filter (λ m. cell_of w m == cell) marks)

-- how many squares there are
unfoldable pub cell_count : ℕ
cell_count = 2500

-- how many lie in each square
abbrev pub density : Box2 → List Mark → List ℕ
density w marks = map (count_in w marks) (range_with_len 0 cell_count)

-- the same if the markers are drawn as a density; none if they are drawn one by one
abbrev pub counts_of : Box2 → (limit rules : ℕ) → List Mark → List ℕ
counts_of w limit rules marks =
    if nat_lt most_drawn (drawn_count limit rules marks) then density w marks else []
