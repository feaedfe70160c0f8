-- Facts about every shelf: its numbers, what a later submission leaves unchanged, and the origins of shapes.
use Rattle.std.specs.Prelude.{◌≡◌, ℕ, ◌<◌, ◌≤◌, ◌^◌, List, [], ◌∷◌, ◌++◌, length, slice_get, Some, All, if◌then◌else◌}
use Rattle.mpw_geom.specs.Names.{name_eq}
use Rattle.mpw_hier.specs.declared.submission.Submission.{Submission}
use Rattle.mpw_hier.specs.Items.{Item}
use Rattle.mpw_hier.specs.Shelf.{present}
use Rattle.mpw_hier.specs.Limits.{IsShelf}
use Rattle.mpw_hier.specs.Sizes.{IsExtentNear}
use Rattle.mpw_hier.specs.Values.{flat, count, extent, height}

-- ---- numbers

-- A submission of that cell is on the shelf, with that number.
pub record IsOfCell (ss : List Submission) (cell : List ℕ) (number : ℕ) : Type 0 where
  pub within : number < length ss
  pub submission : Submission
  pub is : slice_get ss number ≡ Some submission
  pub same : submission.cell ≡ cell

-- The present submission of a cell is one of that cell.
abbrev pub PresentAreOfTheirCell : Type 0
PresentAreOfTheirCell = (ss : List Submission) (cell : List ℕ) (number : ℕ)
    → present ss cell ≡ Some number → IsOfCell ss cell number

-- A new submission becomes the present one of its cell, and changes nothing for other cells.
abbrev pub LastIsPresent : Type 0
LastIsPresent =
    (ss : List Submission) (s : Submission) (cell : List ℕ)
    → present (ss ++ s ∷ []) cell ≡ (if name_eq s.cell cell then Some (length ss)
    else present ss cell)

-- A shape comes from the submission with that number or from an earlier one.
pub record IsOrigin (ss : List Submission) (number : ℕ) (i : Item) : Type 0 where
  pub earlier : i.origin ≤ number
  pub within : i.origin < length ss

abbrev pub ShapesAreOfEarlier : Type 0
ShapesAreOfEarlier = (ss : List Submission) (number : ℕ) → All (IsOrigin ss number) (flat ss number)

-- ---- limits

-- The content of the submission with a number meets the limits.
pub record IsLimited (ss : List Submission) (number : ℕ) : Type 0 where
  pub few : count ss number ≤ 2 ^ 40
  pub low : height ss number ≤ 64
  pub near : IsExtentNear (extent ss number)

abbrev pub ShelvesAreLimited : Type 0
ShelvesAreLimited = (ss : List Submission) → IsShelf ss → (number : ℕ) → IsLimited ss number

-- ---- later submissions

-- The submission with a number is the same on both shelves, and has the same content.
pub record IsAsBefore (old new : List Submission) (number : ℕ) : Type 0 where
  pub submission : slice_get new number ≡ slice_get old number
  pub shapes : flat new number ≡ flat old number
  pub many : count new number ≡ count old number
  pub levels : height new number ≡ height old number
  pub reach : extent new number ≡ extent old number

-- Later submissions leave those before them unchanged.
abbrev pub EarlierStay : Type 0
EarlierStay = (ss later : List Submission) (number : ℕ) → number < length ss
    → IsAsBefore ss (ss ++ later) number
