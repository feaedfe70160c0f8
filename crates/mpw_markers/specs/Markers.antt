-- Markers, their lines, rows and boxes.
use Rattle.std.specs.Prelude.{◌≡◌, ◌==◌, ◌&&◌, Bool, true, false, ℤ, ◌≤ℤ◌, ◌<ℤ◌, List, Contains}
use Rattle.std.specs.Ordering.{int_eq}
use Rattle.mpw_edges.specs.declared.run.Axis.{Axis}
use Rattle.mpw_edges.specs.declared.run.Axis.TheVariants.{V, H}
use Rattle.mpw_markers.specs.declared.marker.Line.{Line}
use Rattle.mpw_markers.specs.declared.marker.Key.{Key}
use Rattle.mpw_markers.specs.declared.marker.Marker.{Marker}

-- the line on which a marker with that key lies
abbrev pub line_of_key : Key → Line
line_of_key k = record {
  rule = k.rule;
  axis = k.piece.axis;
  side = k.piece.side;
  x1 = k.piece.x1;
  x2 = k.piece.x2;
}

abbrev pub line_of : Marker → Line
line_of m = line_of_key m.key

-- whether two axes, two lines, and two keys are equal
abbrev pub axis_eq : Axis → Axis → Bool
axis_eq V V = true
axis_eq V H = false
axis_eq H V = false
axis_eq H H = true

abbrev pub line_eq : Line → Line → Bool
line_eq a b =
    ((a.rule == b.rule) && axis_eq a.axis b.axis)
    && ((a.side == b.side) && (int_eq a.x1 b.x1 && int_eq a.x2 b.x2))

abbrev pub key_eq : Key → Key → Bool
key_eq a b = line_eq (line_of_key a) (line_of_key b)
    && (int_eq a.piece.y0 b.piece.y0 && int_eq a.piece.y1 b.piece.y1)

-- the marker has some row
abbrev pub IsFilled : Marker → Type 0
IsFilled m = m.key.piece.y0 <ℤ m.key.piece.y1

-- the marker has the row: it lies on that line, and the row from y0 to before y1
abbrev pub HasRow : Marker → Line → ℤ → Type 0
HasRow m line j = (line_of m ≡ line) × (m.key.piece.y0 ≤ℤ j) × (j <ℤ m.key.piece.y1)

-- some marker of the list has the row
abbrev pub CoversRow : List Marker → Line → ℤ → Type 0
CoversRow markers line j = (m : Marker) × Contains markers m × HasRow m line j

-- the markers lie on one line, and the rows of the first within those of the second
abbrev pub LiesIn : Marker → Marker → Type 0
LiesIn m n = (line_of m ≡ line_of n) × (n.key.piece.y0 ≤ℤ m.key.piece.y0)
    × (m.key.piece.y1 ≤ℤ n.key.piece.y1)
