-- Laws of the requests of the wafer.
use Rattle.std.specs.Prelude.{[], ◌≡◌, ℕ, List, ◌∷◌, slice_get, Some, IfOk}
use Rattle.mpw_geom.specs.declared.placing.Placing.{Placing}
use Rattle.mpw_hier.specs.declared.submission.Submission.{Submission}
use Rattle.mpw_hier.specs.Shelf.{present}
use Rattle.mpw_requests.specs.declared.wafer.WaferRequest.TheVariants as ask
use Rattle.mpw_replies.specs.Listing.{Listed, stored}
use Rattle.mpw_laws.specs.Readable.{lines_of}
use Rattle.mpw_replies.specs.declared.reply.Line.TheVariants as line
use Rattle.mpw_placings.specs.declared.wafer.Wafer.{Wafer}
use Rattle.mpw_wafer.specs.Wafers.{row_of}

-- The cell has a present submission, and the reply has its version.
pub record TellsVersion (shelf : List Submission) (cell : List ℕ) (lines : List Listed) :
    Type 0 where
  pub number : ℕ
  pub submission : Submission
  pub present_is : present shelf cell ≡ Some number
  pub is : slice_get shelf number ≡ Some submission
  pub told : lines ≡ stored (line.Version submission.version) ∷ []

abbrev pub PlacingsTellTheirVersion : Type 0
PlacingsTellTheirVersion =
    (shelf : List Submission) (wafer : Wafer) (cell label : List ℕ) (placing : Placing)
    → IfOk (row_of shelf wafer (ask.Place cell label placing))
    (λ done. TellsVersion shelf cell (lines_of done))
