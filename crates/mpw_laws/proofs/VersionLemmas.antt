-- The version in the reply to an accepted `place`.
use Rattle.std.proofs.Common.{map, ap}
use Rattle.mpw_laws.specs.PlacingLaws.{VersionIsTold}
use Rattle.mpw_replies.specs.Listing.{stored}
use Rattle.mpw_laws.specs.WaferLaws.{PlacingsTellTheirVersion}
use Rattle.mpw_laws.proofs.RowParts.{if_changed}
use Rattle.mpw_wafer.specs.Wafers.{place_row, version_lines}
use Rattle.mpw_wafer.proofs.Parts.{placed_ok}

pub versions_told : VersionIsTold → PlacingsTellTheirVersion
versions_told tells shelf wafer cell label placing =
    if_changed _ _ _ (place_row shelf wafer.placings cell label placing) (λ ps is.
    let has = tells shelf wafer.placings ps cell label placing
    (placed_ok shelf wafer.placings ps cell label placing is) in
    record {
      number = has.number;
      submission = has.submission;
      present_is = has.present_is;
      is = has.is;
      told = ap (λ version. map stored (version_lines version)) has.told;
    })
