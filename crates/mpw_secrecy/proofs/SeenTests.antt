-- What `waive` and `sign` get by a view.
use Rattle.std.proofs.Common.{◌≡◌, ℕ, List, map, slice_set, Option, None, Some, Result, Ok, Err}
use Rattle.std.specs.Prelude.{option_map}
use Rattle.std.specs.List.{position}
use Rattle.mpw_geom.specs.Names.{name_eq}
use Rattle.mpw_markers.specs.declared.marker.Key.{Key}
use Rattle.mpw_requests.specs.declared.sign_off.MarkerName.{MarkerName}
use Rattle.mpw_roles.specs.Hierarchy.{Name}
use Rattle.mpw_rbac.specs.Policy.{Policy}
use Rattle.mpw_replies.specs.Rows.{◌>>=◌}
use Rattle.mpw_trail.specs.declared.verdict.Code.TheVariants as code
use Rattle.mpw_run.specs.declared.phase.Phase.{Phase}
use Rattle.mpw_waiver.specs.declared.waiver.Waiver.{Waiver}
use Rattle.mpw_waiver.specs.Waivers.{waiver_at}
use Rattle.mpw_signoff.specs.Named.{key_by}
use Rattle.mpw_signoff.specs.declared.ending.SignOffEnding.{SignOffEnding}
use Rattle.mpw_signoff.specs.declared.ending.SignOffEnding.TheVariants.{Refused}
use Rattle.mpw_secrecy.specs.Views.{BookSeen, MarkerSeen, book_view}
use Rattle.mpw_secrecy.proofs.Books.{names_in}
use Rattle.mpw_secrecy.proofs.Waived.{marker_with, with_waiver}

-- ---- what a view decides

-- a user's test of a marker that is seen, and the change of its waiver by a user
abbrev pub Test : Type 0
Test = MarkerSeen → Result (Unit {0}) SignOffEnding

abbrev pub Change : Type 0
Change = Option Waiver → Option Waiver

abbrev pub test_row : Test → Key → Option MarkerSeen → Result Key SignOffEnding
test_row test key None = Err (Refused code.NoMarker)
test_row test key (Some seen) = test seen >>= (λ passed. Ok key)

abbrev pub of_rule : Test → MarkerName → List MarkerSeen → Option ℕ → Result Key SignOffEnding
of_rule test name markers None = Err (Refused code.NoMarker)
of_rule test name markers (Some rule) =
    test_row test (key_by name rule) (marker_with (key_by name rule) markers)

abbrev pub of_book : Test → MarkerName → BookSeen → Result Key SignOffEnding
of_book test name book =
    of_rule test name book.markers (position (λ n. name_eq n name.rule) (names_in book))

-- the key of the marker that is waived or signed
abbrev pub row_seen : Test → MarkerName → Option BookSeen → Result Key SignOffEnding
row_seen test name None = Err (Refused code.NotFinished)
row_seen test name (Some book) = of_book test name book

abbrev book_with : Change → Key → BookSeen → BookSeen
book_with change key book =
    record { markers = map (with_waiver key change) book.markers; rules = book.rules }

-- the view after it
abbrev pub view_left : Change → Result Key SignOffEnding → Option BookSeen → Option BookSeen
view_left change (Ok key) book = option_map (book_with change key) book
view_left change (Err why) book = book

-- ---- decision tables

-- the waivers with one that is put at an index
abbrev pub put_at : (Name → Change) → List (Option Waiver) → ℕ → Name → List (Option Waiver)
put_at change waivers place user = slice_set waivers place (change user (waiver_at waivers place))

-- a table ends as the view decides, or the view after its change is the one that the view decides; `behind`
-- are the waivers after it
abbrev pub IsTold : {B : Type 0} → Policy → ℕ → Change → Phase → List (Option Waiver)
    → (B → List (Option Waiver)) → Result B SignOffEnding → Result Key SignOffEnding → Type 0
IsTold policy connection change phase old behind (Ok by) (Ok key) =
    book_view policy connection (behind by) phase
    ≡ view_left change (Ok key) (book_view policy connection old phase)
IsTold policy connection change phase old behind (Err e) (Err why) = e ≡ why
IsTold policy connection change phase old behind (Ok by) (Err why) = ⊥
IsTold policy connection change phase old behind (Err e) (Ok key) = ⊥
