-- Every state has an entry for a waiver of each marker of a finished run, and of no other run.
use Rattle.std.proofs.Common.{◌≡◌, ℕ, List, length, Option, None, Some, refl, sym, ◌∙◌}
use Rattle.std.proofs.lemmas.List.{length-replicate, length-set}
use Rattle.mpw_run.specs.declared.phase.Phase.{Phase}
use Rattle.mpw_run.specs.declared.phase.Phase.TheVariants.{Idle, Cutting, Checking, Finished}
use Rattle.mpw_run.specs.Step.{book_size, restarted_phase}
use Rattle.mpw_laws.specs.SignOffLaws.{PlacesAreLeft}
use Rattle.mpw_waiver.specs.declared.waiver.Waiver.{Waiver}
use Rattle.mpw_waiver.specs.Waivers.{signed_by, waiver_at}
use Rattle.mpw_signoff.specs.declared.rows.WaiverChange.TheVariants.{Asked, Signed}
use Rattle.mpw_events.specs.declared.event.Call.{Call}
use Rattle.mpw_events.specs.History.{state_after}
use Rattle.mpw_events.specs.Step.{State, new_state}
use Rattle.mpw_laws.proofs.WaivedLemmas.{waived-history}

pub places_left : PlacesAreLeft
places_left waivers (Asked by) =
    length-set waivers by.place (Some (record { asker = by.user; signer = None }))
places_left waivers (Signed by) =
    length-set waivers by.place (signed_by by.user (waiver_at waivers by.place))

restarted-size : (phase : Phase) → book_size (restarted_phase phase) ≡ book_size phase
restarted-size Idle = refl
restarted-size (Cutting planned) = refl
restarted-size (Checking c) = refl
restarted-size (Finished f) = refl

abbrev HasPlaces : Phase → List (Option Waiver) → Type 0
HasPlaces phase waivers = length waivers ≡ book_size phase

pub fit-history : PlacesAreLeft → (officer digest : List ℕ) (calls : List Call)
    → let s : State = state_after (new_state officer digest) calls
    in HasPlaces s.run.phase s.waivers
fit-history left officer digest calls =
    waived-history HasPlaces refl (λ planned. refl) (λ planned c waivers h. h)
    (λ c c' waivers h. h) (λ f. length-replicate _ None)
    (λ phase waivers h. h ∙ sym (restarted-size phase))
    (λ s connection request change lines is h. left s.waivers change ∙ h) officer digest calls
