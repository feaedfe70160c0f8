-- What a change of the wafer leaves of the placements.
use Rattle.std.proofs.Common.{◌≡◌, List, [], Result, Ok}
use Rattle.mpw_deck.specs.Decks.{Deck}
use Rattle.mpw_hier.specs.declared.submission.Submission.{Submission}
use Rattle.mpw_placings.specs.Laws.{PlacingKeeps, UnplacingKeeps}
use Rattle.mpw_placings.specs.Placements.{ArePlacings}
use Rattle.mpw_placings.specs.declared.wafer.Wafer.{Wafer}
use Rattle.std.specs.Prelude.{Some}
use Rattle.mpw_requests.specs.declared.wafer.WaferRequest.TheVariants as ask
use Rattle.mpw_replies.proofs.RowParts.{changed}
use Rattle.mpw_replies.specs.Listing.{Listed}
use Rattle.mpw_replies.specs.Rows.{changing}
use Rattle.mpw_trail.specs.declared.verdict.Code.{Code}
use Rattle.mpw_replies.specs.declared.row.Done.{Done}
use Rattle.mpw_replies.specs.declared.row.Done.TheVariants.{Lists, Changes}
use Rattle.mpw_wafer.specs.Laws.{ChangesKeepPlacings}
use Rattle.mpw_wafer.specs.Wafers.{place_row, unplace_row}
use Rattle.mpw_wafer.proofs.Parts.{placed_ok, unplaced_ok}

-- a new deck leaves the placements as they are, and what lists changes nothing
decked : (shelf : List Submission) (wafer next : Wafer) (lines : List Listed) (row : Result Deck Code)
    → changing (λ deck. record wafer { deck = Some deck }) (λ deck. []) row ≡ Ok (Changes next lines)
    → ArePlacings shelf wafer.placings → ArePlacings shelf next.placings
decked shelf wafer next lines row is kept =
    let made = changed _ (λ deck. []) row next lines is in
    rw (← made.2) kept

listed : {E : Type 0} (shelf : List Submission) (next : Wafer) (lines found : List Listed)
    → (let row : Result (Done Wafer) E = Ok (Lists found) in row ≡ Ok (Changes next lines))
    → ArePlacings shelf next.placings
listed shelf next lines found is = absurd cc

-- a line for each request that changes the placements; the last line is for all others
pub changes_keep : PlacingKeeps → UnplacingKeeps → ChangesKeepPlacings
changes_keep place unplace shelf wafer (ask.Place cell label placing) next lines kept is =
    let made = changed _ _ (place_row shelf wafer.placings cell label placing) next lines is in
    rw (← made.2) (place shelf wafer.placings made.0 cell label placing kept
    (placed_ok shelf wafer.placings made.0 cell label placing made.1))
changes_keep place unplace shelf wafer (ask.Unplace cell label) next lines kept is =
    let made = changed _ (λ ps. []) (unplace_row wafer.placings cell label) next lines is in
    rw (← made.2) (unplace shelf wafer.placings made.0 cell label kept
    (unplaced_ok wafer.placings made.0 cell label made.1))
changes_keep place unplace shelf wafer request next lines kept is = search (decked, listed)
