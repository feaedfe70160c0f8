-- The maps of the policy, in terms of its tables.
use Rattle.std.proofs.Common.{◌≡◌, Bool, true, false, cond, ◌||◌, inl, inr, Option, List, [], ◌∷◌, ◌++◌, Some, is_some, refl, sym, ap, true≢false}
use Rattle.std.specs.List.{list_any, list_all}
use Rattle.mpw_roles.proofs.CallerLemmas.{or_cases, or_right}
use Rattle.mpw_rbac.specs.Table.{has_key, value_at, with_value, insert_entry}
use Rattle.mpw_rbac.proofs.SeparationLemmas.{both, parts}

module _ {K V : Type 0} (eq : K → K → Bool) where
  pub is_some-value_at : (es : List (K × V)) (k : K) → is_some (value_at eq es k) ≡ has_key eq es k
  is_some-value_at [] k = refl
  is_some-value_at (e ∷ es) k =
      elim (eq k e.0) as (λ b. is_some (cond b (Some e.1) (value_at eq es k))
      ≡ (b || has_key eq es k)) [ true ↦ refl | false ↦ is_some-value_at es k ]

  pub insert-new : (es : List (K × V)) (k : K) (v : V) → has_key eq es k ≡ false
      → insert_entry eq es k v ≡ es ++ (k, v) ∷ []
  insert-new [] k v new = refl
  insert-new (e ∷ es) k v new =
      elim (eq k e.0) as (λ b. (b || has_key eq es k) ≡ false
      → cond b ((e.0, v) ∷ es) (e ∷ insert_entry eq es k v) ≡ e ∷ (es ++ (k, v) ∷ [])) [
        | true ↦ λ is. absurd (true≢false is)
        | false ↦ λ later. ap (λ l. e ∷ l) (insert-new es k v later)
      ] new

  pub insert-present : (es : List (K × V)) (k : K) (v : V) → has_key eq es k ≡ true
      → insert_entry eq es k v ≡ with_value eq es k v
  insert-present [] k v there = absurd (true≢false (sym there))
  insert-present (e ∷ es) k v there =
      elim (eq k e.0) as (λ b. (b || has_key eq es k) ≡ true
      → cond b ((e.0, v) ∷ es) (e ∷ insert_entry eq es k v) ≡ cond b ((e.0, v) ∷ es)
      (e ∷ with_value eq es k v)) [
        | true ↦ λ _. refl
        | false ↦ λ later. ap (λ l. e ∷ l) (insert-present es k v later)
      ] there

-- the new value at a key is made from the present one
module _ {K V : Type 0} (eq : K → K → Bool) (change : Option V → V) (test : V → Bool) where
  -- the table after that, by whether it is the first
  abbrev changed : Bool → K × V → List (K × V) → K → List (K × V)
  changed first e es k =
      let v = change (cond first (Some e.1) (value_at eq es k)) in
      cond first ((e.0, v) ∷ es) (e ∷ with_value eq es k v)

  pub any-changed : ((v : V) → test (change (Some v)) ≡ true → test v ≡ true) → (k : K)
      (es : List (K × V))
      → list_any (λ (e : K × V). test e.1) (with_value eq es k (change (value_at eq es k))) ≡ true
      → list_any (λ (e : K × V). test e.1) es ≡ true
  any-changed less k [] is = is
  any-changed less k (e ∷ es) is =
      let rest = list_any (λ (x : K × V). test x.1) es in
      elim (eq k e.0) as (λ b. list_any (λ (x : K × V). test x.1) (changed b e es k) ≡ true
      → (test e.1 || rest) ≡ true) [
        | true ↦ λ t. elim (or_cases (test (change (Some e.1))) rest t) [
          | inl here ↦ ap (λ b. b || rest) (less e.1 here)
          | inr later ↦ or_right (test e.1) rest later
        ]
        | false ↦ λ t. elim (or_cases (test e.1) _ t) [
          | inl here ↦ ap (λ b. b || rest) here
          | inr later ↦ or_right (test e.1) rest (any-changed less k es later)
        ]
      ] is

  pub all-changed : ((v : V) → test v ≡ true → test (change (Some v)) ≡ true) → (k : K)
      (es : List (K × V)) → list_all (λ (e : K × V). test e.1) es ≡ true
      → list_all (λ (e : K × V). test e.1) (with_value eq es k (change (value_at eq es k))) ≡ true
  all-changed more k [] all = refl
  all-changed more k (e ∷ es) all =
      let t = parts (test e.1) (list_all (λ (x : K × V). test x.1) es) all in
      elim (eq k e.0) as (λ b. list_all (λ (x : K × V). test x.1) (changed b e es k) ≡ true) [
        | true ↦ both (test (change (Some e.1))) _ (more e.1 t.0) t.1
        | false ↦ both (test e.1) _ t.0 (all-changed more k es t.1)
      ]

pub any-same : {X : Type 0} (p q : X → Bool) → ((x : X) → p x ≡ q x) → (xs : List X)
    → list_any p xs ≡ list_any q xs
any-same p q same [] = refl
any-same p q same (x ∷ xs) = λ i. same x i || any-same p q same xs i
