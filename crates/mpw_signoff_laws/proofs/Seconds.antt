-- A second request is refused; who signs, and who asks.
use Rattle.std.proofs.Common.{◌≡◌, ℕ, ◌<◌, Bool, true, false, cond, List, [], length, Option, None, Some, Result, Ok, Err, refl, sym, ap, subst, ◌∙◌, arith}
use Rattle.std.specs.Prelude.{slice_get}
use Rattle.std.proofs.lemmas.Option.{slice_get_within}
use Rattle.mpw_permissions.specs.declared.permission.Object.TheVariants as objects
use Rattle.mpw_permissions.specs.declared.permission.Operation.TheVariants as operations
use Rattle.mpw_rbac.specs.Policy.{Policy}
use Rattle.mpw_rbac.specs.Rows.{user_of}
use Rattle.mpw_requests.specs.declared.need.Need.TheVariants.{Permission}
use Rattle.mpw_requests.specs.declared.sign_off.MarkerName.{MarkerName}
use Rattle.mpw_requests.specs.declared.sign_off.SignOffRequest.TheVariants as ask
use Rattle.mpw_replies.specs.Sight.{is_full}
use Rattle.mpw_access.specs.Guard.{entered}
use Rattle.mpw_access.specs.Seen.{seen_by}
use Rattle.mpw_trail.specs.declared.verdict.Code.TheVariants as code
use Rattle.mpw_replies.specs.Rows.{changing}
use Rattle.mpw_replies.proofs.RowParts.{changed}
use Rattle.mpw_replies.specs.declared.row.Done.TheVariants.{Changes}
use Rattle.mpw_run.specs.declared.phase.Checked.{Checked}
use Rattle.mpw_run.specs.declared.phase.Phase.{Phase}
use Rattle.mpw_run.specs.declared.phase.Phase.TheVariants.{Finished}
use Rattle.mpw_run.specs.Step.{Run, book_size}
use Rattle.mpw_deck.specs.declared.rule.Rule.{Rule}
use Rattle.mpw_markers.specs.declared.marker.Marker.{Marker}
use Rattle.mpw_markers.specs.Book.{place_in}
use Rattle.mpw_waiver.specs.declared.fault.WaiverFault.{WaiverFault}
use Rattle.mpw_waiver.specs.declared.waiver.Waiver.{Waiver}
use Rattle.mpw_waiver.specs.Signing.{ask_test, sign_test}
use Rattle.mpw_waiver.specs.Waivers.{waiver_at, with_asker, signed_by, with_signer}
use Rattle.mpw_signoff.specs.declared.rows.ByUser.{ByUser}
use Rattle.mpw_signoff.specs.Named.{Named, named_in, found_at, found_by, with_place, key_by, rule_place}
use Rattle.mpw_signoff.specs.declared.rows.WaiverChange.{WaiverChange}
use Rattle.mpw_signoff.specs.declared.rows.WaiverChange.TheVariants.{Asked, Signed}
use Rattle.mpw_signoff.specs.declared.ending.SignOffEnding.{SignOffEnding}
use Rattle.mpw_signoff.specs.declared.ending.SignOffEnding.TheVariants.{Refused}
use Rattle.mpw_signoff.specs.SigningOff.{by_user, if_full, if_shown, full_marker, passes, waive_row, sign_row, row_of, waivers_after}
use Rattle.mpw_signoff_laws.specs.SignedOnce.{Reaches, IsSignable, SignedExactly, IsAskable, AskedExactly, SecondSignaturesAreRefused, SecondAskersAreRefused}
use Rattle.mpw_signoff_laws.proofs.Places.{at_within, put_same}
use Rattle.mpw_signoff_laws.proofs.Passing.{waive_passed, sign_passed, asks_none, signs_unsigned}

-- ---- who comes second

full_is : (seen : List Bool) (o n : Named) → if_full seen o ≡ Ok n → o ≡ n
full_is seen o n e = go (is_full seen o.marker) e
  where
    go : (b : Bool) → cond b (Ok o) (Err (Refused code.NoMarker)) ≡ Ok n → o ≡ n
    go true e = cc
    go false e = absurd cc

shown_is : (seen : List Bool) (o : Option Named) (n : Named) → if_shown seen o ≡ Ok n → o ≡ Some n
shown_is seen None n e = absurd cc
shown_is seen (Some m) n e = ap Some (full_is seen m n e)

-- which marker is named depends on the book alone
named_is : (policy : Policy) (connection : ℕ) (f : Checked) (name : MarkerName) (n : Named)
    → full_marker policy connection f name ≡ Ok n
    → named_in f.planned.snapshot.deck.rules f.book name ≡ Some n
unfolding full_marker
named_is policy connection f name n e =
    shown_is (seen_by policy connection f.planned.snapshot.shelf)
    (named_in f.planned.snapshot.deck.rules f.book name) n e

-- and the marker is in it
in_book : (rules : List Rule) (book : List Marker) (name : MarkerName) (n : Named)
    → named_in rules book name ≡ Some n → n.place < length book
unfolding named_in
in_book rules book name n e = by_rule (rule_place rules name.rule) e
  where
    stands : (k : ℕ) (m : Option Marker) → slice_get book k ≡ m → with_place k m ≡ Some n
        → n.place < length book
    stands k None is f = absurd cc
    stands k (Some m) is f =
        let same : record { place = k; marker = m } ≡ n = cc in
        subst (λ (x : Named). x.place < length book) same (slice_get_within book k m is)

    by_place : (o : Option ℕ) → found_at book o ≡ Some n → n.place < length book
    by_place None f = absurd cc
    by_place (Some k) f = stands k (slice_get book k) refl f

    by_rule : (o : Option ℕ) → found_by book name o ≡ Some n → n.place < length book
    by_rule None f = absurd cc
    by_rule (Some rule) f = by_place (place_in book (key_by name rule)) f

same_checked : (phase : Phase) (f g : Checked) → phase ≡ Finished f → phase ≡ Finished g → f ≡ g
same_checked phase f g a b = let e = sym a ∙ b in cc

same_named : (policy other : Policy) (connection another : ℕ) (f g : Checked) (name : MarkerName)
    (n m : Named) → f ≡ g → full_marker policy connection f name ≡ Ok n
    → full_marker other another g name ≡ Ok m → n ≡ m
same_named policy other connection another f g name n m e a b =
    let first = named_is policy connection f name n a in
    let second = named_is other another g name m b in
    let both =
    sym first
    ∙ ap (λ (h : Checked). named_in h.planned.snapshot.deck.rules h.book name) e ∙ second in
    cc

-- a signed waiver is `known` to a signer, and any waiver to an asker
signed_known : (shelf : _) (met user : List ℕ) (o : Option Waiver) (asker signer : List ℕ)
    → o ≡ Some (record { asker = asker; signer = Some signer })
    → passes (sign_test shelf met user o) ≡ Err (Refused code.Known)
signed_known shelf met user o asker signer e = rw e refl

asked_known : (o : Option Waiver) (waiver : Waiver) → o ≡ Some waiver
    → passes (ask_test o) ≡ Err (Refused code.Known)
asked_known o waiver e = rw e refl

module _ (policy : Policy) (run : Run) (waivers : List (Option Waiver)) (connection : ℕ)
    (name : MarkerName) where
  second_signs : (r : Reaches policy run connection operations.Sign name) (asker signer : List ℕ)
      → waiver_at waivers r.named.place ≡ Some (record { asker = asker; signer = Some signer })
      → sign_row policy run waivers connection name ≡ Err (Refused code.Known)
  unfolding sign_row
  second_signs r asker signer e =
      rw (
        r.finished,
        r.shown,
        signed_known r.checked.planned.snapshot.shelf r.named.marker.met
            (user_of policy connection) (waiver_at waivers r.named.place) asker signer e,
      ) refl

  second_asks : (r : Reaches policy run connection operations.Waive name) (waiver : Waiver)
      → waiver_at waivers r.named.place ≡ Some waiver
      → waive_row policy run waivers connection name ≡ Err (Refused code.Known)
  unfolding waive_row
  second_asks r waiver e =
      rw (
        r.finished,
        r.shown,
        asked_known (waiver_at waivers r.named.place) waiver e,
      ) refl

pub second_signatures_are_refused : SecondSignaturesAreRefused
second_signatures_are_refused policy other wafer later run waivers connection another name first r =
    let c =
    changed Signed (λ by. []) (sign_row policy run waivers connection name) first.change []
    first.is in
    record {
      allowed = r.allowed;
      is = subst (λ w. row_of other later run (waivers_after waivers w) another (ask.Sign name)
          ≡ Err (Refused code.Known)) c.2 (ap (λ row. changing Signed (λ by. []) row)
          (known c.0 c.1));
    }
  where
    known : (by : ByUser) → sign_row policy run waivers connection name ≡ Ok by
        → sign_row other run (with_signer waivers by.place by.user) another name
        ≡ Err (Refused code.Known)
    known by is =
        let p = sign_passed policy run waivers connection name by is in
        let u =
        signs_unsigned p.f.planned.snapshot.shelf p.n.marker.met (user_of policy connection)
        (waiver_at waivers p.n.place) p.free in
        let at : by.place ≡ p.n.place = ap (λ (b : ByUser). b.place) p.is in
        let same : p.n ≡ r.named =
        same_named policy other connection another p.f r.checked name p.n r.named
        (same_checked run.phase p.f r.checked p.phase r.finished) p.shown r.shown in
        let place : by.place ≡ r.named.place = at ∙ ap (λ (n : Named). n.place) same in
        let theirs : waiver_at waivers by.place ≡ Some u.waiver =
        ap (waiver_at waivers) at ∙ u.is in
        let there =
        ap (waiver_at (with_signer waivers by.place by.user)) (sym place)
        ∙ put_same waivers by.place (signed_by by.user (waiver_at waivers by.place))
        (at_within waivers by.place u.waiver theirs) ∙ ap (signed_by by.user) theirs in
        second_signs other run (with_signer waivers by.place by.user) another name r
        u.waiver.asker by.user there

pub second_askers_are_refused : SecondAskersAreRefused
second_askers_are_refused policy other wafer later run waivers connection another name long first
    r =
    let c =
    changed Asked (λ by. []) (waive_row policy run waivers connection name) first.change []
    first.is in
    record {
      allowed = r.allowed;
      is = subst (λ w. row_of other later run (waivers_after waivers w) another (ask.Waive name)
          ≡ Err (Refused code.Known)) c.2 (ap (λ row. changing Asked (λ by. []) row)
          (known c.0 c.1));
    }
  where
    known : (by : ByUser) → waive_row policy run waivers connection name ≡ Ok by
        → waive_row other run (with_asker waivers by.place by.user) another name
        ≡ Err (Refused code.Known)
    known by is =
        let p = waive_passed policy run waivers connection name by is in
        let at : by.place ≡ p.n.place = ap (λ (b : ByUser). b.place) p.is in
        let same : p.n ≡ r.named =
        same_named policy other connection another p.f r.checked name p.n r.named
        (same_checked run.phase p.f r.checked p.phase r.finished) p.shown r.shown in
        let place : by.place ≡ r.named.place = at ∙ ap (λ (n : Named). n.place) same in
        let within =
        in_book p.f.planned.snapshot.deck.rules p.f.book name p.n
        (named_is policy connection p.f name p.n p.shown) in
        let size : length waivers ≡ length p.f.book = long ∙ ap book_size p.phase in
        let asked : Waiver = record { asker = by.user; signer = None } in
        let there : waiver_at (with_asker waivers by.place by.user) r.named.place ≡ Some asked =
        ap (waiver_at (with_asker waivers by.place by.user)) (sym place)
        ∙ put_same waivers by.place (Some asked) (omega (arith, at, within, size)) in
        second_asks other run (with_asker waivers by.place by.user) another name r asked there

-- ---- who signs, and who asks

passes_of : (told : Result (Unit {0}) WaiverFault) → told ≡ Ok tt → passes told ≡ Ok tt
passes_of told e = rw e refl

asks_of : (o : Option Waiver) → o ≡ None → ask_test o ≡ Ok tt
asks_of o e = rw e refl

module _ (policy : Policy) (run : Run) (waivers : List (Option Waiver)) (connection : ℕ)
    (name : MarkerName) where
  signs : (s : IsSignable policy run waivers connection name)
      → sign_row policy run waivers connection name ≡ Ok (by_user policy connection s.reaches.named)
  unfolding sign_row
  signs s =
      let r = s.reaches in
      rw (
        r.finished,
        r.shown,
        passes_of
            (sign_test r.checked.planned.snapshot.shelf r.named.marker.met
            (user_of policy connection) (waiver_at waivers r.named.place)) s.passes,
      ) refl

  signable : entered policy connection (Permission operations.Sign objects.Desk) ≡ Ok tt
      → (by : ByUser) → sign_row policy run waivers connection name ≡ Ok by
      → IsSignable policy run waivers connection name
  signable allowed by is =
      let p = sign_passed policy run waivers connection name by is in
      record {
        reaches = record {
          checked = p.f;
          named = p.n;
          allowed = allowed;
          finished = p.phase;
          shown = p.shown;
        };
        passes = p.free;
      }

  asks : (s : IsAskable policy run waivers connection name)
      → waive_row policy run waivers connection name
      ≡ Ok (by_user policy connection s.reaches.named)
  unfolding waive_row
  asks s =
      let r = s.reaches in
      rw (
        r.finished,
        r.shown,
        passes_of (ask_test (waiver_at waivers r.named.place))
            (asks_of (waiver_at waivers r.named.place) s.none),
      ) refl

  askable : entered policy connection (Permission operations.Waive objects.Desk) ≡ Ok tt
      → (by : ByUser) → waive_row policy run waivers connection name ≡ Ok by
      → IsAskable policy run waivers connection name
  askable allowed by is =
      let p = waive_passed policy run waivers connection name by is in
      record {
        reaches = record {
          checked = p.f;
          named = p.n;
          allowed = allowed;
          finished = p.phase;
          shown = p.shown;
        };
        none = asks_none (waiver_at waivers p.n.place) p.free;
      }

-- a table that changes the waivers gives a user
user_of_change : (put : ByUser → WaiverChange) (row : Result ByUser SignOffEnding)
    (change : WaiverChange) → changing put (λ by. []) row ≡ Ok (Changes change [])
    → (by : ByUser) × (row ≡ Ok by)
user_of_change put row change is =
    let c = changed put (λ by. []) row change [] is in (c.0, c.1)

pub signed_exactly : SignedExactly
signed_exactly policy wafer run waivers connection name = (
  λ a.
      let b = user_of_change Signed (sign_row policy run waivers connection name) a.change a.is in
      signable policy run waivers connection name a.allowed b.0 b.1,
  λ s. record {
    allowed = s.reaches.allowed;
    change = Signed (by_user policy connection s.reaches.named);
    is = ap (λ r. changing Signed (λ by. []) r) (signs policy run waivers connection name s);
  },
)

pub asked_exactly : AskedExactly
asked_exactly policy wafer run waivers connection name = (
  λ a.
      let b = user_of_change Asked (waive_row policy run waivers connection name) a.change a.is in
      askable policy run waivers connection name a.allowed b.0 b.1,
  λ s. record {
    allowed = s.reaches.allowed;
    change = Asked (by_user policy connection s.reaches.named);
    is = ap (λ r. changing Asked (λ by. []) r) (asks policy run waivers connection name s);
  },
)
