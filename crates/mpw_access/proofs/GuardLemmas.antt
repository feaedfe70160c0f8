-- What the guard lets through, and what it denies.
use Rattle.std.proofs.Common.{◌≡◌, ◌⊎◌, Bool, true, false, cond, Option, None, Some, Result, Ok, Err, refl, inl, inr, subst}
use Rattle.std.specs.Prelude.{is_some}
use Rattle.mpw_requests.specs.declared.need.Need.TheVariants.{Nothing, Session, Permission}
use Rattle.mpw_rbac.specs.Policy.{session_of}
use Rattle.mpw_access.specs.Guard.{DeniedIsLacked, EnteredHas, HoldersEnter, Lacks}

abbrev pass : {E : Type 0} → Result (Unit {0}) E
pass = Ok tt

-- one test that passes, and two
one : {E : Type 0} (a : Bool) (e : E) → cond a pass (Err e) ≡ pass → a ≡ true
one true e is = refl
one false e is = absurd cc

two : {E : Type 0} (a b : Bool) (e f : E) → cond a (cond b pass (Err f)) (Err e) ≡ pass
    → (a ≡ true) × (b ≡ true)
two true true e f is = (refl, refl)
two true false e f is = absurd cc
two false b e f is = absurd cc

pub entered_has : EnteredHas
entered_has policy connection Nothing is = tt
entered_has policy connection Session is = one _ _ is
entered_has policy connection (Permission operation object) is = two _ _ _ _ is

pub holders_enter : HoldersEnter
holders_enter policy connection Nothing has = refl
holders_enter policy connection Session has = rw has refl
holders_enter policy connection (Permission operation object) has = rw (has.0, has.1) refl

closed : {A : Type 0} (o : Option A) → is_some o ≡ false → o ≡ None
closed None is = refl
closed (Some x) is = absurd cc

-- one test that fails, and one of two
one_failed : {E : Type 0} (a : Bool) (e told : E) → cond a pass (Err e) ≡ Err told
    → (a ≡ false) × (e ≡ told)
one_failed true e told is = absurd cc
one_failed false e told is = (refl, cc)

two_failed : {E : Type 0} (a b : Bool) (e f told : E)
    → cond a (cond b pass (Err f)) (Err e) ≡ Err told
    → ((a ≡ false) × (e ≡ told)) ⊎ ((b ≡ false) × (f ≡ told))
two_failed true true e f told is = absurd cc
two_failed true false e f told is = inr (refl, cc)
two_failed false b e f told is = inl (refl, cc)

pub denied_is_lacked : DeniedIsLacked
denied_is_lacked policy connection Nothing e is = absurd cc
denied_is_lacked policy connection Session e is =
    let failed = one_failed (is_some (session_of policy connection)) _ _ is in
    subst (Lacks policy connection Session) failed.1 (closed _ failed.0)
denied_is_lacked policy connection (Permission operation object) e is =
    elim (two_failed _ _ _ _ _ is) [
      | inl failed ↦
          subst (Lacks policy connection (Permission operation object)) failed.1
          (closed _ failed.0)
      | inr failed ↦
          subst (Lacks policy connection (Permission operation object)) failed.1 (refl, failed.0)
    ]
