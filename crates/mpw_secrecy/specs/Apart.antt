-- Who signed the waivers of a desk: this holds in every state.
use Rattle.std.specs.Prelude.{◌≡◌, ℕ, List, slice_get, Some}
use Rattle.mpw_markers.specs.declared.marker.Marker.{Marker}
use Rattle.mpw_roles.specs.Hierarchy.{Name}
use Rattle.mpw_run.specs.declared.phase.Checked.{Checked}
use Rattle.mpw_run.specs.declared.phase.Phase.{Phase}
use Rattle.mpw_run.specs.declared.phase.Phase.TheVariants.{Finished}
use Rattle.mpw_waiver.specs.declared.waiver.Waiver.{Waiver}
use Rattle.mpw_laws.specs.WaiverLaws.{IsApart}
use Rattle.mpw_waiver.specs.Waivers.{waiver_at}
use Rattle.mpw_events.specs.declared.event.Call.{Call}
use Rattle.mpw_events.specs.History.{state_after}
use Rattle.mpw_events.specs.Step.{State, new_state}

-- A run is finished, its book has a marker at that index, and the signer neither asked for its waiver nor
-- submitted what it touches.
pub record IsSignedApart (phase : Phase) (place : ℕ) (waiver : Waiver) (signer : Name) :
    Type 0 where
  pub checked : Checked
  pub marker : Marker
  pub finished : phase ≡ Finished checked
  pub at : slice_get checked.book place ≡ Some marker
  pub apart : IsApart checked.planned.snapshot.shelf marker.met signer waiver

-- This holds of each signed waiver.
abbrev pub AreSignedApart : State → Type 0
AreSignedApart state =
    (place : ℕ) (waiver : Waiver) (signer : Name)
    → waiver_at state.waivers place ≡ Some waiver → waiver.signer ≡ Some signer
    → IsSignedApart state.run.phase place waiver signer

-- In every state that calls lead to.
abbrev pub EveryStateIsSignedApart : Type 0
EveryStateIsSignedApart = (officer digest : List ℕ) (calls : List Call)
    → AreSignedApart (state_after (new_state officer digest) calls)
