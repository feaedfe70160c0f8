-- What holds if a verdict is `clean`: the wafer may start.
use Rattle.std.specs.Prelude.{◌≡◌, ℕ, Bool, List, [], ◌∷◌, slice_get, Option, Some}
use Rattle.mpw_hier.specs.declared.submission.Submission.{Submission}
use Rattle.mpw_job.specs.Layout.{AreLayoutMarkers}
use Rattle.mpw_markers.specs.declared.marker.Marker.{Marker}
use Rattle.mpw_placings.specs.Placements.{roots_of}
use Rattle.mpw_roles.specs.Hierarchy.{Name}
use Rattle.mpw_requests.specs.declared.request.Request.TheVariants as ask
use Rattle.mpw_requests.specs.declared.sign_off.SignOffRequest.TheVariants.{Verdict}
use Rattle.mpw_replies.specs.Listing.{stored}
use Rattle.mpw_replies.specs.declared.reply.Line.TheVariants as line
use Rattle.mpw_replies.specs.declared.reply.Reply.TheVariants as reply
use Rattle.mpw_run.specs.declared.phase.Checked.{Checked}
use Rattle.mpw_run.specs.declared.phase.Phase.TheVariants.{Finished}
use Rattle.mpw_waiver.specs.declared.waiver.Waiver.{Waiver}
use Rattle.mpw_laws.specs.WaiverLaws.{IsApart}
use Rattle.mpw_waiver.specs.Waivers.{waiver_at}
use Rattle.mpw_events.specs.declared.event.Event.TheVariants as event
use Rattle.mpw_events.specs.declared.event.Response.TheVariants as response
use Rattle.mpw_events.specs.Step.{State, response_of}

-- A marker has a waiver, and its signer neither asked for it nor submitted what the marker touches.
pub record IsWaived (shelf : List Submission) (marker : Marker) (found : Option Waiver) :
    Type 0 where
  pub waiver : Waiver
  pub signer : Name
  pub is : found ≡ Some waiver
  pub signed : waiver.signer ≡ Some signer
  pub apart : IsApart shelf marker.met signer waiver

-- A run is finished whose deck and placed submissions are those of the wafer. Its book has exactly the
-- markers of the flat layout that it checked, and each of them has such a waiver.
pub record MayStart (state : State) : Type 0 where
  pub checked : Checked
  pub finished : state.run.phase ≡ Finished checked
  pub deck : state.wafer.deck ≡ Some checked.planned.snapshot.deck
  pub roots : roots_of state.wafer.placings ≡ checked.planned.snapshot.roots
  pub markers : AreLayoutMarkers checked.planned.snapshot checked.book
  pub waived : (place : ℕ) (marker : Marker) → slice_get checked.book place ≡ Some marker
      → IsWaived checked.planned.snapshot.shelf marker (waiver_at state.waivers place)

-- Whoever asks: the verdict is `clean` only if this holds.
abbrev pub CleanWafersMayStart : State → Type 0
CleanWafersMayStart state =
    (connection : ℕ) (kept : Bool)
    → response_of state (event.Ask connection (ask.SignOff Verdict)) kept ≡ response.Told
    (reply.Ok (stored line.Clean ∷ []))
    → MayStart state
