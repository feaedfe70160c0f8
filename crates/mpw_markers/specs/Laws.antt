-- Laws of books.
use Rattle.std.specs.Prelude.{◌≡◌, ℕ, ◌<◌, ℤ, ◌≤ℤ◌, ◌<ℤ◌, Bool, ◌&&◌, true, List, [], length, slice_get, slice_index_or, Some}
use Rattle.mpw_geom.specs.Plane.{Square}
use Rattle.mpw_markers.specs.declared.marker.Key.{Key}
use Rattle.mpw_markers.specs.declared.marker.Line.{Line}
use Rattle.mpw_markers.specs.declared.marker.Marker.{Marker}
use Rattle.mpw_markers.specs.Book.{place_in}
use Rattle.mpw_markers.specs.Stitched.{IsStitched}
use Rattle.mpw_markers.specs.Whole.{AreMarkersOf}

-- the lists determine the book
abbrev pub ListsDetermineTheBook : Type 0
ListsDetermineTheBook = (lists : List (List Marker)) (first second : List Marker)
    → IsStitched lists first → IsStitched lists second → first ≡ second

-- the rows that pass in one core
abbrev pub steps_in : (Line → ℤ → Bool) → (Line → ℤ → Bool) → Line → ℤ → Bool
steps_in steps core line j = steps line j && core line j

-- each list has exactly the markers of its core; each core is bounded, and each step lies in one of them
pub record AreListedByCores (steps : Line → ℤ → Bool) (cores : ℕ → Line → ℤ → Bool) (has : ℕ
    → Square → Type 0) (lists : List (List Marker)) : Type 0 where
  pub listed : (k : ℕ) → k < length lists
      → AreMarkersOf (steps_in steps (cores k)) has (slice_index_or lists k [])
  pub bounded : (k : ℕ) → k < length lists → (low : ℤ) × (high : ℤ)
      × ((line : Line) (j : ℤ) → cores k line j ≡ true → (low ≤ℤ j) × (j <ℤ high))
  pub covered : (line : Line) (j : ℤ) → steps line j ≡ true → (k : ℕ) × (k < length lists)
      × (cores k line j ≡ true)

-- The book stitched from the lists of all cores has exactly the markers of the whole layout. Tests decide which rows of a line are steps,
-- which of them lie in a core, and which unit squares a submission has.
abbrev pub StitchedIsWhole : Type 0
StitchedIsWhole =
    (steps : Line → ℤ → Bool) (cores : ℕ → Line → ℤ → Bool) (has : ℕ → Square → Bool)
    (lists : List (List Marker)) (book : List Marker)
    → AreListedByCores steps cores (λ origin s. has origin s ≡ true) lists → IsStitched lists book
    → AreMarkersOf steps (λ origin s. has origin s ≡ true) book

-- The marker at the index of a key has that key.
abbrev pub PlacesAreOfKeys : Type 0
PlacesAreOfKeys =
    (book : List Marker) (key : Key) (place : ℕ) → place_in book key ≡ Some place
    → (m : Marker) × (slice_get book place ≡ Some m) × (m.key ≡ key)
