-- Sessions that are ended one after another: if each connection that has one is among them, none is left.
use Rattle.std.proofs.Common.{◌≡◌, ◌∙◌, ℕ, zero, suc, ◌==◌, Bool, true, false, cond, not, List, [], ◌∷◌, Some, refl, sym, ap, arith}
use Rattle.std.specs.Prelude.{Contains, is_some}
use Rattle.std.proofs.lemmas.Bool.{true≢false, eqb-true, eq-eqb}
use Rattle.mpw_rbac.specs.Policy.{Policy, session_of}
use Rattle.mpw_rbac.specs.Rows as rows
use Rattle.mpw_rbac.specs.Table.{value_at, without_key}
use Rattle.mpw_rbac.specs.declared.session.Session.{Session}

abbrev Sessions : Type 0
Sessions = List (ℕ × Session)

abbrev found_at : Sessions → ℕ → Bool
found_at es key = is_some (value_at (λ a b. a == b) es key)

abbrev less : Sessions → ℕ → Sessions
less es key = without_key (λ a b. a == b) es key

-- what is found without a key is found with it, at another key
abbrev IsOther : Sessions → ℕ → ℕ → Type 0
IsOther es gone key = (key ≡ gone → ⊥) × (found_at es key ≡ true)

found_less : (es : Sessions) (gone key : ℕ) → found_at (less es gone) key ≡ true
    → IsOther es gone key
found_less [] gone key is = absurd (true≢false (sym is))
found_less (e ∷ es) gone key is = by (λ there. found_less es gone key there) (gone == e.0) refl is
  where
    behind : (b : Bool) → found_at es key ≡ true
        → is_some (cond b (Some e.1) (value_at (λ a b. a == b) es key)) ≡ true
    behind true there = refl
    behind false there = there

    first : (found_at (less es gone) key ≡ true → IsOther es gone key) → (b : Bool)
        → (key == e.0) ≡ b → (gone == e.0) ≡ false
        → is_some (cond b (Some e.1) (value_at (λ a b. a == b) (less es gone) key)) ≡ true
        → (key ≡ gone → ⊥)
        × (is_some (cond b (Some e.1) (value_at (λ a b. a == b) es key)) ≡ true)
    first rest true own other there = (
      λ same. true≢false (sym (sym (ap (λ k. k == e.0) same) ∙ own) ∙ other),
      refl,
    )
    first rest false own other there = rest there

    by : (found_at (less es gone) key ≡ true → IsOther es gone key) → (b : Bool)
        → (gone == e.0) ≡ b
        → found_at (cond (not b) (e ∷ less es gone) (less es gone)) key ≡ true
        → IsOther (e ∷ es) gone key
    by rest true same there = let r = rest there in (r.0, behind (key == e.0) r.1)
    by rest false other there = first rest (key == e.0) refl other there

-- what is found is found without another key
found_other : (es : Sessions) (gone key : ℕ) → (key ≡ gone → ⊥) → found_at es key ≡ true
    → found_at (less es gone) key ≡ true
found_other [] gone key other is = absurd (true≢false (sym is))
found_other (e ∷ es) gone key other is =
    by (λ there. found_other es gone key other there) (gone == e.0) refl
  where
    behind : (found_at es key ≡ true → found_at (less es gone) key ≡ true) → (b : Bool)
        → (key == e.0) ≡ b → (gone == e.0) ≡ true
        → is_some (cond b (Some e.1) (value_at (λ a b. a == b) es key)) ≡ true
        → found_at (less es gone) key ≡ true
    behind rest true own same there =
        absurd (other (eqb-true key e.0 own ∙ sym (eqb-true gone e.0 same)))
    behind rest false own same there = rest there

    first : (found_at es key ≡ true → found_at (less es gone) key ≡ true) → (b : Bool)
        → is_some (cond b (Some e.1) (value_at (λ a b. a == b) es key)) ≡ true
        → is_some (cond b (Some e.1) (value_at (λ a b. a == b) (less es gone) key)) ≡ true
    first rest true there = refl
    first rest false there = rest there

    by : (found_at es key ≡ true → found_at (less es gone) key ≡ true) → (b : Bool)
        → (gone == e.0) ≡ b
        → found_at (cond (not b) (e ∷ less es gone) (less es gone)) key ≡ true
    by rest true same = behind rest (key == e.0) refl same is
    by rest false apart = first rest (key == e.0) is

-- another connection's session goes on
pub goes_on : (p : Policy) (gone key : ℕ) → (key ≡ gone → ⊥)
    → is_some (session_of p key) ≡ true
    → is_some (session_of (rows.end_session p gone) key) ≡ true
goes_on p gone key other is = found_other p.sessions gone key other is

-- ---- all of them

abbrev pub ended : Policy → List ℕ → Policy
ended p [] = p
ended p (c ∷ connections) = ended (rows.end_session p c) connections

none_left : (es : Sessions) → ((key : ℕ) → found_at es key ≡ true → ⊥) → es ≡ []
none_left [] never = refl
none_left (e ∷ es) never =
    absurd (never e.0 (ap (λ b. is_some (cond b (Some e.1) (value_at (λ a b. a == b) es e.0)))
    (eq-eqb e.0 e.0 refl)))

none_in : (key : ℕ) → Contains [] key → ⊥
none_in key there = omega (arith, there.1)

among : (c : ℕ) (connections : List ℕ) (key : ℕ) → (key ≡ c → ⊥) → Contains (c ∷ connections) key
    → Contains connections key
among c connections key other (zero, within, is) = absurd (other (sym is))
among c connections key other (suc k, within, is) = (k, omega (arith, within), is)

pub all_ended : (p : Policy) (connections : List ℕ)
    → ((key : ℕ) → is_some (session_of p key) ≡ true → Contains connections key)
    → ended p connections ≡ rows.end_sessions p
all_ended p [] each =
    ap (λ (es : Sessions). (let q : Policy = record p { sessions = es } in q))
    (none_left p.sessions (λ key is. none_in key (each key is)))
all_ended p (c ∷ connections) each =
    all_ended (rows.end_session p c) connections
    (λ key is. let r = found_less p.sessions c key is in
    among c connections key r.0 (each key r.1))
