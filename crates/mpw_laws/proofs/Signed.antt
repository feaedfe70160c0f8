-- The tests of asking and signing, passed or denied.
use Rattle.std.proofs.Common.{◌≡◌, ℕ, Bool, true, false, cond, List, Option, None, Some, Ok, Err, refl, sym, ap, ◌∙◌, true≢false}
use Rattle.std.specs.Prelude.{Result, is_some, ◌≢◌}
use Rattle.std.specs.Ordering.{is_lt}
use Rattle.mpw_geom.specs.Names.{name_eq, name_cmp}
use Rattle.mpw_geom.proofs.Linked.{same_name, name_eq-refl}
use Rattle.mpw_hier.specs.declared.submission.Submission.{Submission}
use Rattle.mpw_waiver.specs.declared.fault.WaiverFault.{WaiverFault}
use Rattle.mpw_waiver.specs.declared.fault.WaiverFault.TheVariants.{Known, NoWaiver, Submitter, Asker}
use Rattle.mpw_waiver.specs.declared.waiver.Waiver.{Waiver}
use Rattle.mpw_laws.specs.WaiverLaws.{IsOwn, MaySign}
use Rattle.mpw_waiver.specs.Signing.{least_own_cell, separation_test, sign_test}
use Rattle.mpw_laws.specs.Signing.{if_passed, signed}
use Rattle.mpw_waiver.specs.Waivers.{waiver_at, with_signer}
use Rattle.mpw_laws.proofs.OwnCells.{none_own, own_none, least_own}

abbrev Told : Type 0
Told = Result (Unit {0}) WaiverFault

abbrev passed : Told
passed = Ok tt

-- ---- the waivers if a test passes

pub passed_is : (told : Told) (waivers after : List (Option Waiver))
    → if_passed told waivers ≡ Ok after
    → (told ≡ passed) × (after ≡ waivers)
passed_is (Ok done) waivers after e = (refl, cc)
passed_is (Err fault) waivers after e = absurd cc

failed_is : (told : Told) (waivers : List (Option Waiver)) (fault : WaiverFault)
    → if_passed told waivers ≡ Err fault → told ≡ Err fault
failed_is (Ok done) waivers fault e = absurd cc
failed_is (Err other) waivers fault e = cc

-- ---- the tests

record Passes (shelf : List Submission) (met user : List ℕ) (o : Option Waiver) : Type 0 where
  waiver : Waiver
  is : o ≡ Some waiver
  unsigned : waiver.signer ≡ None
  least : least_own_cell shelf met user ≡ None
  asker : name_eq waiver.asker user ≡ false

separated : (o : Option (List ℕ)) (asker user : List ℕ) → separation_test o asker user ≡ passed
    → (o ≡ None) × (name_eq asker user ≡ false)
separated (Some cell) asker user e = absurd cc
separated None asker user e = (refl, go (name_eq asker user) e)
  where
    go : (b : Bool) → cond b (Err Asker) passed ≡ passed → b ≡ false
    go true e = absurd cc
    go false e = refl

passes : (shelf : List Submission) (met user : List ℕ) (o : Option Waiver)
    → sign_test shelf met user o ≡ passed → Passes shelf met user o
passes shelf met user None e = absurd cc
passes shelf met user (Some waiver) e = go waiver.signer refl e
  where
    go : (s : Option (List ℕ)) → waiver.signer ≡ s
        → cond (is_some s) (Err Known) (separation_test (least_own_cell shelf met user) waiver.asker
        user) ≡ passed
        → Passes shelf met user (Some waiver)
    go (Some signer) is e = absurd cc
    go None is e =
        let both = separated (least_own_cell shelf met user) waiver.asker user e in
        record { waiver = waiver; is = refl; unsigned = is; least = both.0; asker = both.1 }

passes-from : (shelf : List Submission) (met user : List ℕ) (o : Option Waiver)
    → Passes shelf met user o
    → sign_test shelf met user o ≡ passed
passes-from shelf met user o p =
    ap (sign_test shelf met user) p.is
    ∙ ap (λ s. cond (is_some s) (Err Known)
    (separation_test (least_own_cell shelf met user) p.waiver.asker user)) p.unsigned
    ∙ ap (λ l. separation_test l p.waiver.asker user) p.least
    ∙ ap (λ b. cond b (Err Asker) passed) p.asker

-- a denial comes from the test of separation
denied : (shelf : List Submission) (met user : List ℕ) (o : Option Waiver) (fault : WaiverFault)
    → sign_test shelf met user o ≡ Err fault → fault ≢ NoWaiver → fault ≢ Known
    → (waiver : Waiver) × (o ≡ Some waiver)
    × (separation_test (least_own_cell shelf met user) waiver.asker user ≡ Err fault)
denied shelf met user None fault e missing known = absurd (missing cc)
denied shelf met user (Some waiver) fault e missing known = go (is_some waiver.signer) e
  where
    go : (b : Bool) → cond b (Err Known)
        (separation_test (least_own_cell shelf met user) waiver.asker user) ≡ Err fault
        → (w : Waiver) × (Some waiver ≡ Some w)
        × (separation_test (least_own_cell shelf met user) w.asker user ≡ Err fault)
    go true e = absurd (known cc)
    go false e = (waiver, refl, e)

submitter-is : (o : Option (List ℕ)) (asker user cell : List ℕ)
    → separation_test o asker user ≡ Err (Submitter cell) → o ≡ Some cell
submitter-is (Some other) asker user cell e = cc
submitter-is None asker user cell e = go (name_eq asker user) e
  where
    go : (b : Bool) → cond b (Err Asker) passed ≡ Err (Submitter cell) → None ≡ Some cell
    go true e = absurd cc
    go false e = absurd cc

asker-is : (o : Option (List ℕ)) (asker user : List ℕ) → separation_test o asker user ≡ Err Asker
    → asker ≡ user
asker-is (Some cell) asker user e = absurd cc
asker-is None asker user e = go (name_eq asker user) refl e
  where
    go : (b : Bool) → name_eq asker user ≡ b → cond b (Err Asker) passed ≡ Err Asker → asker ≡ user
    go true is e = same_name asker user is
    go false is e = absurd cc

-- ---- the laws

different : (a b : List ℕ) → name_eq a b ≡ false → a ≢ b
different a b apart same = true≢false (sym (ap (λ n. name_eq n b) same ∙ name_eq-refl b) ∙ apart)

apart-test : (a b : List ℕ) → a ≢ b → name_eq a b ≡ false
apart-test a b apart = go (name_eq a b) refl
  where
    go : (t : Bool) → name_eq a b ≡ t → t ≡ false
    go true is = absurd (apart (same_name a b is))
    go false is = refl

pub signers_apart : (shelf : List Submission) (waivers after : List (Option Waiver)) (place : ℕ)
    (met user : List ℕ)
    → signed shelf waivers place met user ≡ Ok after → MaySign shelf waivers place met user
    × (after ≡ with_signer waivers place user)
unfolding signed
signers_apart shelf waivers after place met user e =
    let told = passed_is (sign_test shelf met user (waiver_at waivers place))
    (with_signer waivers place user) after e in
    let p = passes shelf met user (waiver_at waivers place) told.0 in (
      record {
        waiver = p.waiver;
        is = p.is;
        still_open = p.unsigned;
        apart = record {
          asker = different p.waiver.asker user p.asker;
          submitter = none_own shelf
              met user p.least;
        };
      },
      told.1,
    )

pub apart_sign : (shelf : List Submission) (waivers : List (Option Waiver)) (place : ℕ)
    (met user : List ℕ)
    → MaySign shelf waivers place met user
    → signed shelf waivers place met user ≡ Ok (with_signer waivers place user)
unfolding signed
apart_sign shelf waivers place met user may =
    let p : Passes shelf met user (waiver_at waivers place) = record {
      waiver = may.waiver;
      is = may.is;
      unsigned = may.still_open;
      least = own_none shelf met user may.apart.submitter;
      asker = apart-test may.waiver.asker user may.apart.asker;
    } in
    ap (λ told. if_passed told (with_signer waivers place user))
    (passes-from shelf met user (waiver_at waivers place) p)

pub submitter_least : (shelf : List Submission) (waivers : List (Option Waiver)) (place : ℕ)
    (met user cell : List ℕ)
    → signed shelf waivers place met user ≡ Err (Submitter cell)
    → IsOwn shelf met user cell × ((other : List ℕ) → IsOwn shelf met user other
    → is_lt (name_cmp other cell) ≡ false)
unfolding signed
submitter_least shelf waivers place met user cell e =
    let told = failed_is (sign_test shelf met user (waiver_at waivers place))
    (with_signer waivers place user) (Submitter cell) e in
    let d = denied shelf met user (waiver_at waivers place) (Submitter cell) told (λ is. absurd cc)
    (λ is. absurd cc) in
    least_own shelf met user cell (submitter-is (least_own_cell shelf met user) d.0.asker user cell
    d.2)

pub asker_asked : (shelf : List Submission) (waivers : List (Option Waiver)) (place : ℕ)
    (met user : List ℕ)
    → signed shelf waivers place met user ≡ Err Asker
    → (waiver : Waiver) × (waiver_at waivers place ≡ Some waiver) × (waiver.asker ≡ user)
unfolding signed
asker_asked shelf waivers place met user e =
    let told = failed_is (sign_test shelf met user (waiver_at waivers place))
    (with_signer waivers place user) Asker e in
    let d = denied shelf met user (waiver_at waivers place) Asker told (λ is. absurd cc)
    (λ is. absurd cc) in
    (d.0, d.1, asker-is (least_own_cell shelf met user) d.0.asker user d.2)
