-- The view decides `waive` and `sign`, and the view after them.
use Rattle.std.proofs.Common.{◌≡◌, ◌∙◌, ℕ, ◌+◌, ◌<◌, Bool, true, false, cond, List, [], length, map, slice_get, slice_set, Option, None, Some, Result, Ok, Err, is_some, refl, sym, ap, subst, arith}
use Rattle.std.specs.Prelude.{option_map}
use Rattle.std.specs.List.{position}
use Rattle.std.specs.Option.{option_map_or}
use Rattle.std.proofs.lemmas.Option.{slice_get_within}
use Rattle.mpw_geom.specs.Least.{first_name}
use Rattle.mpw_geom.specs.Names.{name_eq}
use Rattle.mpw_hier.specs.declared.submission.Submission.{Submission}
use Rattle.mpw_markers.specs.Book.{IsBook, place_in}
use Rattle.mpw_markers.specs.declared.marker.Key.{Key}
use Rattle.mpw_markers.specs.declared.marker.Marker.{Marker}
use Rattle.mpw_markers.specs.Laws.{PlacesAreOfKeys}
use Rattle.mpw_requests.specs.declared.sign_off.MarkerName.{MarkerName}
use Rattle.mpw_roles.specs.Hierarchy.{Name}
use Rattle.mpw_rbac.specs.declared.session.Identity.{Identity}
use Rattle.mpw_rbac.specs.declared.session.Session.{Session}
use Rattle.mpw_rbac.specs.Policy.{Policy, identity_of, session_of}
use Rattle.mpw_rbac.specs.Rows.{user_of}
use Rattle.mpw_replies.specs.Rows.{◌>>=◌, changing, ended_by, needed}
use Rattle.mpw_replies.specs.Sight.{is_full}
use Rattle.mpw_access.specs.Seen.{seen_by}
use Rattle.mpw_trail.specs.declared.verdict.Code.TheVariants as code
use Rattle.mpw_run.specs.declared.phase.Checked.{Checked}
use Rattle.mpw_run.specs.declared.phase.Phase.{Phase}
use Rattle.mpw_run.specs.declared.phase.Phase.TheVariants.{Idle, Cutting, Checking, Finished}
use Rattle.mpw_run.specs.Step.{book_size, findings, IsPhase}
use Rattle.mpw_waiver.specs.declared.fault.WaiverFault.{WaiverFault}
use Rattle.mpw_waiver.specs.declared.fault.WaiverFault.TheVariants as fault
use Rattle.mpw_waiver.specs.declared.waiver.Waiver.{Waiver}
use Rattle.mpw_waiver.specs.Signing.{ask_test, least_own_cell, separation_test, sign_test}
use Rattle.mpw_waiver.specs.Waivers.{signed_by, waiver_at}
use Rattle.mpw_signoff.specs.Named.{Named, found_at, found_by, key_by, named_in, rule_place, with_place}
use Rattle.mpw_signoff.specs.SigningOff as signing
use Rattle.mpw_signoff.specs.declared.ending.SignOffEnding.{SignOffEnding}
use Rattle.mpw_signoff.specs.declared.ending.SignOffEnding.TheVariants.{Refused}
use Rattle.mpw_signoff.specs.declared.rows.ByUser.{ByUser}
use Rattle.mpw_signoff.specs.declared.rows.WaiverChange.{WaiverChange}
use Rattle.mpw_signoff.specs.declared.rows.WaiverChange.TheVariants.{Asked, Signed}
use Rattle.mpw_events.specs.declared.event.Response.TheVariants as response
use Rattle.mpw_events.specs.Step.{State, Outcome, outcome_by, over_waivers}
use Rattle.mpw_secrecy.specs.Secrecy.{IsOrderly}
use Rattle.mpw_secrecy.specs.Views.{BookSeen, MarkerSeen, SameView, book_view, checked_view, marker_of, markers_seen, rules_seen}
use Rattle.mpw_secrecy.proofs.Books.{names_from, rule_by_name}
use Rattle.mpw_secrecy.proofs.Listings.{SameOutcome}
use Rattle.mpw_secrecy.proofs.Places.{found_key, nowhere, only_at, put_here, put_there}
use Rattle.mpw_secrecy.proofs.Waived.{changed_at, marker_with, seen_at_place, seen_nowhere, with_waiver}
use Rattle.mpw_secrecy.proofs.SeenTests.{Test, Change, test_row, of_rule, of_book, row_seen, view_left, put_at, IsTold}

-- a table gives the user and the index of the marker, by `end`, and `behind` says what is put there
module _ {B : Type 0} (keys : PlacesAreOfKeys) (policy : Policy) (connection : ℕ) (f : Checked)
    (waivers : List (Option Waiver)) (change : Name → Change) (end : Named → B)
    (behind : B → List (Option Waiver))
    (puts : (n : Named) → behind (end n) ≡ put_at change waivers n.place
    (user_of policy connection))
    (test : Named → Result (Unit {0}) SignOffEnding) (seen_test : Test)
    (alike : (n : Named) → seen_test (marker_of f.planned.snapshot.shelf (user_of policy connection)
    n.marker (waiver_at waivers n.place)) ≡ test n)
    (is : IsBook f.book) (places : length waivers ≡ length f.book) where
  abbrev shelf : List Submission
  shelf = f.planned.snapshot.shelf

  abbrev user : Name
  user = user_of policy connection

  abbrev seen : List Bool
  seen = seen_by policy connection f.planned.snapshot.shelf

  abbrev markers : List MarkerSeen
  markers = markers_seen shelf seen user waivers 0 f.book

  abbrev Gives : Result B SignOffEnding → Result Key SignOffEnding → Type 0
  Gives row told = IsTold policy connection (change user) (Finished f) waivers behind row told

  abbrev tail : Named → Result B SignOffEnding
  tail n = test n >>= (λ free. Ok (end n))

  abbrev new_at : ℕ → List (Option Waiver)
  new_at place = slice_set waivers place (change user (waiver_at waivers place))

  left_at : (key : Key) (n : Named) → slice_get f.book n.place ≡ Some n.marker
      → place_in f.book key ≡ Some n.place → n.marker.key ≡ key
      → markers_seen shelf seen user (new_at n.place) 0 f.book ≡ map (with_waiver key (change user))
      markers
  left_at key n at e has =
      let here : 0 + n.place ≡ n.place = omega arith in
      let within : n.place < length waivers =
      omega (arith, places, slice_get_within f.book n.place n.marker at) in
      let put : waiver_at (new_at n.place) (0 + n.place) ≡ change user
      (waiver_at waivers (0 + n.place)) =
      subst (λ k. waiver_at (new_at n.place) k ≡ change user (waiver_at waivers k)) (sym here)
      (put_here waivers n.place (change user (waiver_at waivers n.place)) within) in
      changed_at shelf seen user key (change user) waivers (new_at n.place) 0 n.place n.marker
      f.book at
      (found_key f.book key n.place n.marker e at)
      (only_at keys f.book key n.place n.marker is at has) put
      (λ k other. put_there waivers n.place k (change user (waiver_at waivers n.place))
      (λ q. other (q ∙ sym here)))

  by_test : (key : Key) (n : Named) → slice_get f.book n.place ≡ Some n.marker
      → place_in f.book key ≡ Some n.place → n.marker.key ≡ key
      → (r : Result (Unit {0}) SignOffEnding) → Gives (r >>= (λ free. Ok (end n)))
      (r >>= (λ passed. Ok key))
  by_test key n at e has (Err why) = refl
  by_test key n at e has (Ok x) =
      ap (λ ws. book_view policy connection ws (Finished f)) (puts n)
      ∙ ap (λ ms. Some (let b : BookSeen = record {
        markers = ms;
        rules = rules_seen seen f.book
            0 f.planned.snapshot.deck.rules;
      } in b)) (left_at key n at e has)

  by_full : (key : Key) (n : Named) → slice_get f.book n.place ≡ Some n.marker
      → place_in f.book key ≡ Some n.place → n.marker.key ≡ key → (b : Bool)
      → Gives (cond b (Ok n) (Err (Refused code.NoMarker)) >>= tail)
      (test_row seen_test key (cond b (Some
      (marker_of shelf user n.marker (waiver_at waivers n.place))) None))
  by_full key n at e has false = refl
  by_full key n at e has true =
      subst (λ r. Gives (test n >>= (λ free. Ok (end n))) (r >>= (λ passed. Ok key)))
      (sym (alike n)) (by_test key n at e has (test n))

  by_key : (key : Key) (o : Option ℕ) → place_in f.book key ≡ o
      → Gives (signing.if_shown seen (found_at f.book o) >>= tail)
      (test_row seen_test key (marker_with key markers))
  by_key key None e =
      subst (λ o. Gives (Err (Refused code.NoMarker)) (test_row seen_test key o))
      (sym (seen_nowhere shelf seen user key waivers 0 f.book (nowhere f.book key e))) refl
  by_key key (Some i) e =
      let found = keys f.book key i e in
      let n : Named = record { place = i; marker = found.0 } in
      let here : 0 + i ≡ i = omega arith in
      let at = seen_at_place shelf seen user key waivers 0 i found.0 f.book found.1
      (found_key f.book key i found.0 e found.1)
      (only_at keys f.book key i found.0 is found.1 found.2) in
      let told = at ∙ ap (λ k. cond (is_full seen found.0)
      (Some (marker_of shelf user found.0 (waiver_at waivers k))) None) here in
      subst (λ o. Gives (signing.if_shown seen (with_place i o) >>= tail)
      (test_row seen_test key (marker_with key markers))) (sym found.1)
      (subst (λ o. Gives (signing.if_full seen n >>= tail) (test_row seen_test key o))
      (sym told) (by_full key n found.1 e found.2 (is_full seen found.0)))

  by_rule : (name : MarkerName) (o : Option ℕ)
      → Gives (signing.if_shown seen (found_by f.book name o) >>= tail)
      (of_rule seen_test name markers o)
  by_rule name None = refl
  by_rule name (Some rule) = by_key (key_by name rule) (place_in f.book (key_by name rule)) refl

  by_name_of : (name : MarkerName) → Gives
      (signing.full_marker policy connection f name >>= tail)
      (of_book seen_test name (checked_view policy connection waivers f))
  unfolding signing.full_marker named_in
  by_name_of name =
      let rules = f.planned.snapshot.deck.rules in
      subst (λ o. Gives (signing.if_shown seen
      (found_by f.book name (rule_place rules name.rule)) >>= tail)
      (of_rule seen_test name markers o))
      (sym (rule_by_name rules name.rule) ∙ ap (position (λ n. name_eq n name.rule))
      (names_from seen f.book 0 rules))
      (by_rule name (rule_place rules name.rule))

-- ---- waive and sign

abbrev asked_by : Name → Change
asked_by who before = Some (record { asker = who; signer = None })

abbrev ask_seen : Test
ask_seen marker = signing.passes (ask_test marker.waiver)

abbrev sign_at : List Name → Name → Option Waiver → Result (Unit {0}) WaiverFault
sign_at own who None = Err fault.NoWaiver
sign_at own who (Some waiver) = cond (is_some waiver.signer) (Err fault.Known)
    (separation_test (first_name own) waiver.asker who)

abbrev sign_seen : Name → Test
sign_seen who marker = signing.passes (sign_at marker.own who marker.waiver)

sign_alike : (stock : List Submission) (m : Marker) (who : Name) (o : Option Waiver)
    → sign_seen who (marker_of stock who m o) ≡ signing.passes (sign_test stock m.met who o)
unfolding least_own_cell
sign_alike stock m who None = refl
sign_alike stock m who (Some waiver) = refl

module _ (keys : PlacesAreOfKeys) (number : ℕ) (policy : Policy) (connection : ℕ)
    (waivers : List (Option Waiver)) (name : MarkerName) where
  abbrev after_by : (ByUser → WaiverChange) → ByUser → List (Option Waiver)
  after_by put by = signing.waivers_after waivers (put by)

  waive_phase : (phase : Phase) → IsPhase number phase → length waivers ≡ book_size phase
      → IsTold policy connection (asked_by (user_of policy connection)) phase waivers
      (after_by Asked)
      (needed (Refused code.NotFinished) (findings phase)
      >>= (λ f. signing.full_marker policy connection f name
      >>= (λ n. signing.passes (ask_test (waiver_at waivers n.place))
      >>= (λ free. Ok (signing.by_user policy connection n)))))
      (row_seen ask_seen name (book_view policy connection waivers phase))
  waive_phase Idle is places = refl
  waive_phase (Cutting planned) is places = refl
  waive_phase (Checking c) is places = refl
  waive_phase (Finished f) is places =
      by_name_of keys policy connection f waivers asked_by (signing.by_user policy connection)
      (after_by Asked) (λ n. refl)
      (λ n. signing.passes (ask_test (waiver_at waivers n.place))) ask_seen (λ n. refl) is.1.book
      places name

  sign_phase : (phase : Phase) → IsPhase number phase → length waivers ≡ book_size phase
      → IsTold policy connection (signed_by (user_of policy connection)) phase waivers
      (after_by Signed)
      (needed (Refused code.NotFinished) (findings phase)
      >>= (λ f. signing.full_marker policy connection f name
      >>= (λ n. signing.apart f waivers n (user_of policy connection)
      >>= (λ free. Ok (signing.by_user policy connection n)))))
      (row_seen (sign_seen (user_of policy connection)) name
      (book_view policy connection waivers phase))
  sign_phase Idle is places = refl
  sign_phase (Cutting planned) is places = refl
  sign_phase (Checking c) is places = refl
  sign_phase (Finished f) is places =
      by_name_of keys policy connection f waivers signed_by (signing.by_user policy connection)
      (after_by Signed) (λ n. refl)
      (λ n. signing.apart f waivers n (user_of policy connection))
      (sign_seen (user_of policy connection))
      (λ n. sign_alike f.planned.snapshot.shelf n.marker (user_of policy connection)
      (waiver_at waivers n.place)) is.1.book places name

-- ---- of a state

abbrev told_of : Test → MarkerName → State → ℕ → Result Key SignOffEnding
told_of test name s connection =
    row_seen test name (book_view s.policy connection s.waivers s.run.phase)

abbrev IsToldOf : State → ℕ → (Name → Change) → (ByUser → WaiverChange)
    → Result ByUser SignOffEnding → Result Key SignOffEnding → Type 0
IsToldOf s connection change put row told =
    IsTold s.policy connection (change (user_of s.policy connection)) s.run.phase s.waivers
    (λ by. signing.waivers_after s.waivers (put by)) row told

waive_told : PlacesAreOfKeys → (s : State) (connection : ℕ) (name : MarkerName) → IsOrderly s
    → IsToldOf s connection asked_by Asked
    (signing.waive_row s.policy s.run s.waivers connection name)
    (told_of ask_seen name s connection)
unfolding signing.waive_row
waive_told keys s connection name orderly =
    waive_phase keys s.run.number s.policy connection s.waivers name s.run.phase orderly.run
    orderly.places

sign_told : PlacesAreOfKeys → (s : State) (connection : ℕ) (name : MarkerName) → IsOrderly s
    → IsToldOf s connection signed_by Signed
    (signing.sign_row s.policy s.run s.waivers connection name)
    (told_of (sign_seen (user_of s.policy connection)) name s connection)
unfolding signing.sign_row
sign_told keys s connection name orderly =
    sign_phase keys s.run.number s.policy connection s.waivers name s.run.phase orderly.run
    orderly.places

-- ---- of two states

user_seen : (policy : Policy) (o : Option Session)
    → option_map_or (λ (s : Session). s.user) o [] ≡ option_map_or (λ (i : Identity). i.user)
    (option_map (identity_of policy) o) []
user_seen policy None = refl
user_seen policy (Some s) = refl

same_user : (connection : ℕ) (a b : State) → SameView connection a b
    → user_of a.policy connection ≡ user_of b.policy connection
same_user connection a b same =
    user_seen a.policy (session_of a.policy connection)
    ∙ ap (λ o. option_map_or (λ (i : Identity). i.user) o []) same.identity
    ∙ sym (user_seen b.policy (session_of b.policy connection))

told_alike : (connection : ℕ) (a b : State) → SameView connection a b
    → is_some (session_of a.policy connection) ≡ true → (test : Name → Test) (name : MarkerName)
    → told_of (test (user_of a.policy connection)) name a connection
    ≡ told_of (test (user_of b.policy connection)) name b connection
told_alike connection a b same is test name =
    λ i. row_seen (test (same_user connection a b same i)) name ((same.sight is).book i)

-- the outcome of a table that changes a waiver
abbrev put_by : State → (ByUser → WaiverChange) → Result ByUser SignOffEnding → Outcome
put_by s put row =
    outcome_by signing.ending_of (over_waivers s) s (changing put (λ by. []) row)

both_alike : (connection : ℕ) (a b : State) → SameView connection a b → (change : Name → Change)
    (put : ByUser → WaiverChange) (first second : Result ByUser SignOffEnding)
    (told : Result Key SignOffEnding)
    → IsToldOf a connection change put first told → IsToldOf b connection change put second told
    → SameOutcome connection (put_by a put first) (put_by b put second)
both_alike connection a b same change put (Ok x) (Ok y) (Ok key) of_a of_b = record {
  told = refl;
  changes = refl;
  view = record {
    identity = same.identity;
    sight = λ is.
        let s = same.sight is in
        record {
          grants = s.grants;
          cells = s.cells;
          run = s.run;
          book =
              of_a ∙ (λ i. view_left (change (same_user connection a b same i)) (Ok key) (s.book i))
              ∙ sym of_b;
        };
  };
}
both_alike connection a b same change put (Err x) (Err y) (Err why) of_a of_b = record {
  told = ap (λ e. response.Told (ended_by (signing.ending_of e))) (of_a ∙ sym of_b);
  changes = refl;
  view = same;
}
both_alike connection a b same change put (Ok x) second (Err why) of_a of_b = absurd of_a
both_alike connection a b same change put (Err x) second (Ok key) of_a of_b = absurd of_a
both_alike connection a b same change put (Ok x) (Err y) (Ok key) of_a of_b = absurd of_b
both_alike connection a b same change put (Err x) (Ok y) (Err why) of_a of_b = absurd of_b

pub waive_alike : PlacesAreOfKeys → (connection : ℕ) (a b : State) → IsOrderly a → IsOrderly b
    → SameView connection a b → is_some (session_of a.policy connection) ≡ true
    → (name : MarkerName)
    → SameOutcome connection
    (put_by a Asked (signing.waive_row a.policy a.run a.waivers connection name))
    (put_by b Asked (signing.waive_row b.policy b.run b.waivers connection name))
waive_alike keys connection a b orderly ordered same is name =
    let theirs = signing.waive_row b.policy b.run b.waivers connection name in
    both_alike connection a b same asked_by Asked
    (signing.waive_row a.policy a.run a.waivers connection name) theirs
    (told_of ask_seen name a connection) (waive_told keys a connection name orderly)
    (subst (λ told. IsToldOf b connection asked_by Asked theirs told)
    (sym (told_alike connection a b same is (λ who. ask_seen) name))
    (waive_told keys b connection name ordered))

pub sign_alike_in : PlacesAreOfKeys → (connection : ℕ) (a b : State) → IsOrderly a → IsOrderly b
    → SameView connection a b → is_some (session_of a.policy connection) ≡ true
    → (name : MarkerName)
    → SameOutcome connection
    (put_by a Signed (signing.sign_row a.policy a.run a.waivers connection name))
    (put_by b Signed (signing.sign_row b.policy b.run b.waivers connection name))
sign_alike_in keys connection a b orderly ordered same is name =
    let theirs = signing.sign_row b.policy b.run b.waivers connection name in
    both_alike connection a b same signed_by Signed
    (signing.sign_row a.policy a.run a.waivers connection name) theirs
    (told_of (sign_seen (user_of a.policy connection)) name a connection)
    (sign_told keys a connection name orderly)
    (subst (λ told. IsToldOf b connection signed_by Signed theirs told)
    (sym (told_alike connection a b same is sign_seen name))
    (sign_told keys b connection name ordered))
