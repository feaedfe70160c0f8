-- A book stitched from lists of markers.
use Rattle.std.specs.Prelude.{ℕ, ℤ, List, Contains, ◌↔◌}
use Rattle.mpw_markers.specs.declared.marker.Line.{Line}
use Rattle.mpw_markers.specs.declared.marker.Marker.{Marker}
use Rattle.mpw_markers.specs.Markers.{HasRow, CoversRow, LiesIn}
use Rattle.mpw_markers.specs.Book.{IsBook}

-- The book has exactly the rows of the parts. A marker of it touches exactly the submissions of the parts within its rows.
pub record IsJoined (part : Marker → Type 0) (book : List Marker) : Type 0 where
  pub markers : IsBook book
  pub rows : (line : Line) (j : ℤ) → CoversRow book line j
      ↔ ((m : Marker) × part m × HasRow m line j)
  pub met : (n : Marker) (origin : ℕ) → Contains book n → Contains n.met origin
      ↔ ((m : Marker) × part m × LiesIn m n × Contains m.met origin)

-- the marker is in one of the lists
abbrev pub IsListed : List (List Marker) → Marker → Type 0
IsListed lists m = (list : List Marker) × Contains lists list × Contains list m

-- the book is stitched from the lists
abbrev pub IsStitched : List (List Marker) → List Marker → Type 0
IsStitched lists book = IsJoined (IsListed lists) book
