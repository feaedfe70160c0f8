-- Maximal runs of rows, and the markers of a whole layout.
use Rattle.std.specs.Prelude.{◌≡◌, ℕ, ℤ, pos, ◌-ℤ◌, ◌≤ℤ◌, ◌<ℤ◌, List, Contains, ◌↔◌}
use Rattle.mpw_geom.specs.Meeting.{IsMet}
use Rattle.mpw_geom.specs.Plane.{Square}
use Rattle.mpw_edges.specs.Pieces.{box_of}
use Rattle.mpw_markers.specs.declared.marker.Line.{Line}
use Rattle.mpw_markers.specs.declared.marker.Key.{Key}
use Rattle.mpw_markers.specs.declared.marker.Marker.{Marker}
use Rattle.mpw_markers.specs.Markers.{line_of_key}

-- a maximal run of rows on the key's line: each of its rows passes, and neither the row below it nor that above it does
pub record IsMaximalRun (Passes : Line → ℤ → Type 0) (key : Key) : Type 0 where
  pub filled : key.piece.y0 <ℤ key.piece.y1
  pub rows : (j : ℤ) → key.piece.y0 ≤ℤ j → j <ℤ key.piece.y1 → Passes (line_of_key key) j
  pub below : Passes (line_of_key key) (key.piece.y0 -ℤ pos 1) → ⊥
  pub above : Passes (line_of_key key) key.piece.y1 → ⊥

-- the list has a marker for each maximal run and no others, and each touches exactly the origins that touch its box
pub record AreMarkersOfRuns (Passes : Line → ℤ → Type 0) (Has : ℕ → Square → Type 0)
    (markers : List Marker) : Type 0 where
  pub sound : (m : Marker) → Contains markers m → IsMaximalRun Passes m.key
  pub complete : (key : Key) → IsMaximalRun Passes key → (m : Marker) × Contains markers m
      × (m.key ≡ key)
  pub met : (m : Marker) (origin : ℕ) → Contains markers m
      → Contains m.met origin ↔ IsMet Has (box_of m.key.piece) origin
