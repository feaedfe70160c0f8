-- The markers of a whole layout, given a test of which rows pass.
use Rattle.std.specs.Prelude.{◌≡◌, ℕ, ℤ, pos, ◌-ℤ◌, ◌≤ℤ◌, ◌<ℤ◌, Bool, true, false, List, Contains, ◌↔◌}
use Rattle.mpw_geom.specs.Meeting.{IsMet}
use Rattle.mpw_geom.specs.Plane.{Square}
use Rattle.mpw_edges.specs.Pieces.{box_of}
use Rattle.mpw_markers.specs.declared.marker.Line.{Line}
use Rattle.mpw_markers.specs.declared.marker.Key.{Key}
use Rattle.mpw_markers.specs.declared.marker.Marker.{Marker}
use Rattle.mpw_markers.specs.Met.{IsAscending}
use Rattle.mpw_markers.specs.Markers.{line_of_key}

-- a maximal run of rows on the key's line that pass the test
pub record IsMaximal (steps : Line → ℤ → Bool) (key : Key) : Type 0 where
  pub filled : key.piece.y0 <ℤ key.piece.y1
  pub rows : (j : ℤ) → key.piece.y0 ≤ℤ j → j <ℤ key.piece.y1 → steps (line_of_key key) j ≡ true
  pub below : steps (line_of_key key) (key.piece.y0 -ℤ pos 1) ≡ false
  pub above : steps (line_of_key key) key.piece.y1 ≡ false

-- a maximal run with the submissions that its box touches
pub record IsMarkerOf (steps : Line → ℤ → Bool) (has : ℕ → Square → Type 0) (m : Marker) :
    Type 0 where
  pub run : IsMaximal steps m.key
  pub ascending : IsAscending m.met
  pub met : (origin : ℕ) → Contains m.met origin ↔ IsMet has (box_of m.key.piece) origin

-- the list has a marker for each maximal run, and no others
pub record AreMarkersOf (steps : Line → ℤ → Bool) (has : ℕ → Square → Type 0)
    (markers : List Marker) : Type 0 where
  pub sound : (m : Marker) → Contains markers m → IsMarkerOf steps has m
  pub complete : (key : Key) → IsMaximal steps key → (m : Marker) × Contains markers m
      × (m.key ≡ key)
