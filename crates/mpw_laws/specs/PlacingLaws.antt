-- Removing a placement, and the version in the reply to `place`.
use Rattle.std.specs.Prelude.{◌≡◌, ℕ, List, slice_get, Some, Ok}
use Rattle.mpw_geom.specs.declared.placing.Placing.{Placing}
use Rattle.mpw_hier.specs.declared.submission.Submission.{Submission}
use Rattle.mpw_hier.specs.Shelf.{present}
use Rattle.mpw_placings.specs.declared.placement.Placement.{Placement}
use Rattle.mpw_placings.specs.Placements.{version_at}
use Rattle.mpw_placings.specs.Rows.{placings_with, placings_without}

-- ---- a placement by its name

-- Removing a placement gives the placings before it was placed.
abbrev pub UnplacingUndoes : Type 0
UnplacingUndoes =
    (ss : List Submission) (ps after : List Placement) (cell label : List ℕ) (placing : Placing)
    → placings_with ss ps cell label placing ≡ Ok after → placings_without after cell label ≡ Ok ps

-- The version of the placement is that of the cell's present submission, which exists.
pub record HasVersion (ss : List Submission) (ps : List Placement) (cell label : List ℕ) :
    Type 0 where
  pub number : ℕ
  pub submission : Submission
  pub present_is : present ss cell ≡ Some number
  pub is : slice_get ss number ≡ Some submission
  pub told : version_at ss ps cell label ≡ Some submission.version

abbrev pub VersionIsTold : Type 0
VersionIsTold =
    (ss : List Submission) (ps after : List Placement) (cell label : List ℕ) (placing : Placing)
    → placings_with ss ps cell label placing ≡ Ok after → HasVersion ss after cell label
