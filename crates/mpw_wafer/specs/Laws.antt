-- A law of the requests of the wafer.
use Rattle.std.specs.Prelude.{◌≡◌, List, Ok}
use Rattle.mpw_hier.specs.declared.submission.Submission.{Submission}
use Rattle.mpw_placings.specs.Placements.{ArePlacings}
use Rattle.mpw_requests.specs.declared.wafer.WaferRequest.{WaferRequest}
use Rattle.mpw_replies.specs.Listing.{Listed}
use Rattle.mpw_replies.specs.declared.row.Done.TheVariants.{Changes}
use Rattle.mpw_placings.specs.declared.wafer.Wafer.{Wafer}
use Rattle.mpw_wafer.specs.Wafers.{row_of}

-- If the placements fit the shelf, then so do those of each wafer that a request changes it to.
abbrev pub ChangesKeepPlacings : Type 0
ChangesKeepPlacings =
    (shelf : List Submission) (wafer : Wafer) (request : WaferRequest) (next : Wafer)
    (lines : List Listed)
    → ArePlacings shelf wafer.placings
    → row_of shelf wafer request ≡ Ok (Changes next lines)
    → ArePlacings shelf next.placings
