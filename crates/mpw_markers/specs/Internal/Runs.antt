-- How a run of markers is found among markers in order.
use Rattle.std.specs.Prelude.{◌≡◌, ℕ, ◌≤◌, ℤ, ◌≤ℤ◌, ◌<ℤ◌, List, [], ◌∷◌, ◌++◌, length, take, drop, Contains, ◌↔◌}
use Rattle.std.specs.Int.{int_max}
use Rattle.mpw_markers.specs.declared.marker.Marker.{Marker}
use Rattle.mpw_markers.specs.declared.marker.Key.{Key}
use Rattle.mpw_markers.specs.Met.{IsAscending}
use Rattle.mpw_markers.specs.Markers.{line_of_key, CoversRow, LiesIn}
use Rattle.mpw_markers.specs.Order.{StandsBefore}

-- the marker with that key that touches these submissions
abbrev pub marker_of : Key → List ℕ → Marker
marker_of k met = record { key = k; met = met }

-- a marker with that key that touches nothing
abbrev pub bare : Key → Marker
bare k = marker_of k []

-- the run, extended to the end of the marker
abbrev pub lengthened : Key → Marker → Key
lengthened k m =
    record k { piece = record k.piece { y1 = int_max k.piece.y1 m.key.piece.y1 } }

-- the run has exactly the rows of the markers, and each lies in it
pub record IsRunOf (markers : List Marker) (run : Key) : Type 0 where
  pub filled : run.piece.y0 <ℤ run.piece.y1
  pub rows : (j : ℤ) → run.piece.y0 ≤ℤ j → j <ℤ run.piece.y1 → CoversRow markers (line_of_key run) j
  pub within : (m : Marker) → Contains markers m → LiesIn m (bare run)

-- the run of the first markers, that many; the others come after it, with a gap
pub record IsFirstRun (markers : List Marker) (count : ℕ) (first : Key) : Type 0 where
  pub some : 1 ≤ count
  pub within : count ≤ length markers
  pub run : IsRunOf (take count markers) first
  pub others : (m : Marker) → Contains (drop count markers) m → StandsBefore (bare first) m

-- the numbers are those of the submissions that the markers touch
pub record AreMetBy (markers : List Marker) (numbers : List ℕ) : Type 0 where
  pub ascending : IsAscending numbers
  pub exact : (origin : ℕ) → Contains numbers origin
      ↔ ((m : Marker) × Contains markers m × Contains m.met origin)

-- the marker of the list's first run was added to the markers
pub record AddsRun (markers : List Marker) (count : ℕ) (old new : List Marker) : Type 0 where
  pub marker : Marker
  pub added : new ≡ old ++ marker ∷ []
  pub run : IsFirstRun markers count marker.key
  pub met : AreMetBy (take count markers) marker.met
