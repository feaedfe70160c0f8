-- Laws of waivers: who signed, why others are denied, and what holds after any requests.
use Rattle.std.specs.Prelude.{◌≡◌, ◌≢◌, ◌↔◌, ◌⊎◌, ℕ, true, false, List, length, slice_get, slice_set, All, Contains, Option, None, Some, Ok, Err}
use Rattle.std.specs.Ordering.{is_lt}
use Rattle.mpw_geom.specs.Names.{name_cmp}
use Rattle.mpw_hier.specs.declared.submission.Submission.{Submission}
use Rattle.mpw_waiver.specs.declared.fault.WaiverFault.TheVariants.{Submitter, Asker}
use Rattle.mpw_waiver.specs.declared.waiver.Waiver.{Waiver}
use Rattle.mpw_waiver.specs.Waivers.{none_asked, waiver_at, is_signed, unsigned, with_signer}
use Rattle.mpw_laws.specs.Signing.{asked, signed}

-- ---- entries

-- After one waiver was put, a waiver at an index was put there, or was there before.
abbrev pub PutOrBefore : Type 0
PutOrBefore =
    (waivers : List (Option Waiver)) (at place : ℕ) (o : Option Waiver) (waiver : Waiver)
    → waiver_at (slice_set waivers at o) place ≡ Some waiver
    → ((at ≡ place) × (o ≡ Some waiver)) ⊎ (waiver_at waivers place ≡ Some waiver)

-- If none was asked for, there is none.
abbrev pub NoneAtFirst : Type 0
NoneAtFirst = (size place : ℕ) (waiver : Waiver) → waiver_at (none_asked size) place ≡ Some waiver
    → ⊥

-- ---- one request

-- One of the touched submissions belongs to that cell, and the user submitted it.
pub record IsOwn (shelf : List Submission) (met : List ℕ) (user cell : List ℕ) : Type 0 where
  pub number : ℕ
  pub submission : Submission
  pub meets : Contains met number
  pub is : slice_get shelf number ≡ Some submission
  pub submitter : submission.submitter ≡ user
  pub of_cell : submission.cell ≡ cell

-- The user neither asked for the waiver nor submitted one of the touched submissions.
pub record IsApart (shelf : List Submission) (met : List ℕ) (user : List ℕ) (waiver : Waiver) :
    Type 0 where
  pub asker : waiver.asker ≢ user
  pub submitter : (cell : List ℕ) → IsOwn shelf met user cell → ⊥

-- There is an unsigned waiver at the index, and the user is apart from it.
pub record MaySign (shelf : List Submission) (waivers : List (Option Waiver)) (place : ℕ)
    (met : List ℕ) (user : List ℕ) : Type 0 where
  pub waiver : Waiver
  pub is : waiver_at waivers place ≡ Some waiver
  pub still_open : waiver.signer ≡ None
  pub apart : IsApart shelf met user waiver

-- A user who signs a waiver may sign it, and no other waiver changes.
abbrev pub SignersAreApart : Type 0
SignersAreApart =
    (shelf : List Submission) (waivers after : List (Option Waiver)) (place : ℕ) (met user : List ℕ)
    → signed shelf waivers place met user ≡ Ok after → MaySign shelf waivers place met user
    × (after ≡ with_signer waivers place user)

-- Each user who may sign it can sign it.
abbrev pub ApartMaySign : Type 0
ApartMaySign =
    (shelf : List Submission) (waivers : List (Option Waiver)) (place : ℕ) (met user : List ℕ)
    → MaySign shelf waivers place met user
    → signed shelf waivers place met user ≡ Ok (with_signer waivers place user)

-- A user who is denied as a submitter submitted a touched submission of the cell that the denial names, and
-- none of an earlier cell in alphabetical order.
abbrev pub SubmitterIsLeast : Type 0
SubmitterIsLeast =
    (shelf : List Submission) (waivers : List (Option Waiver)) (place : ℕ) (met user cell : List ℕ)
    → signed shelf waivers place met user ≡ Err (Submitter cell)
    → IsOwn shelf met user cell × ((other : List ℕ) → IsOwn shelf met user other
    → is_lt (name_cmp other cell) ≡ false)

-- A user who is denied as the asker asked for the waiver.
abbrev pub AskerAsked : Type 0
AskerAsked =
    (shelf : List Submission) (waivers : List (Option Waiver)) (place : ℕ) (met user : List ℕ)
    → signed shelf waivers place met user ≡ Err Asker
    → (waiver : Waiver) × (waiver_at waivers place ≡ Some waiver) × (waiver.asker ≡ user)

-- ---- any requests

-- The waivers of that many markers are the result of requests, each of which passed its tests. The marker at
-- an index touches the submissions whose numbers `met` has for it.
pub data AreWaiversReached (shelf : List Submission) (met : ℕ → List ℕ) (size : ℕ) : List
    (Option Waiver) → Type 0 where
  none : AreWaiversReached shelf met size (none_asked size)
  ask : {waivers after : List (Option Waiver)} (place : ℕ) (user : List ℕ)
      → AreWaiversReached shelf met size waivers
      → asked waivers place user ≡ Ok after → AreWaiversReached shelf met size after
  sign : {waivers after : List (Option Waiver)} (place : ℕ) (user : List ℕ)
      → AreWaiversReached shelf met size waivers
      → signed shelf waivers place (met place) user ≡ Ok after
      → AreWaiversReached shelf met size after

-- There is still an entry for each marker.
abbrev pub ReachedHaveTheirSize : Type 0
ReachedHaveTheirSize =
    (shelf : List Submission) (met : ℕ → List ℕ) (size : ℕ) (waivers : List (Option Waiver))
    → AreWaiversReached shelf met size waivers → length waivers ≡ size

-- The signer of a waiver neither asked for it nor submitted what its marker touches.
abbrev pub ReachedAreSignedApart : Type 0
ReachedAreSignedApart =
    (shelf : List Submission) (met : ℕ → List ℕ) (size : ℕ) (waivers : List (Option Waiver))
    (place : ℕ) (waiver : Waiver) (signer : List ℕ)
    → AreWaiversReached shelf met size waivers → waiver_at waivers place ≡ Some waiver
    → waiver.signer ≡ Some signer
    → IsApart shelf (met place) signer waiver

-- No marker is unsigned exactly if each marker has a signed waiver.
abbrev pub NoneIsUnsigned : Type 0
NoneIsUnsigned = (waivers : List (Option Waiver)) → (unsigned waivers ≡ 0)
    ↔ All (λ waiver. is_signed waiver ≡ true) waivers
