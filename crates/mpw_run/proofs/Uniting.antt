-- The union of the numbers of touched submissions.
use Rattle.std.proofs.Common.{◌≡◌, ℕ, zero, suc, ◌<◌, Bool, true, false, List, [], ◌∷◌, get_or, ◌⊎◌, inl, inr, refl, sym, subst, ◌∙◌, arith}
use Rattle.std.specs.Prelude.{◌==◌, nat_le, Contains, AllPairs, ◌↔◌, fold, if◌then◌else◌}
use Rattle.std.proofs.lemmas.Bool.{cases_eq, eqb-true, eq-eqb, leb-true, leb-false, false≢true}
use Rattle.std.proofs.lemmas.List.Elements.{Contains-get_or}
use Rattle.mpw_markers.specs.Met.{IsAscending}
use Rattle.mpw_markers.proofs.Unique.{tail_pairs, head_pairs, cons_cases, Contains-head, Contains-tail}
use Rattle.mpw_run.specs.Stitching.{met_with}

-- ---- lists

pub head_at : {X : Type 0} (y x : X) (ys : List X) → y ≡ x → Contains (y ∷ ys) x
head_at y x ys e = subst (Contains (y ∷ ys)) e (Contains-head y ys)

pub none_in : {X : Type 0} (x : X) → Contains [] x → ⊥
none_in x c = omega (arith, c.1)

pub cons_pairs : {X : Type 0} (R : X → X → Type 0) (y : X) (ys : List X)
    → ((x : X) → Contains ys x → R y x) → AllPairs R ys → AllPairs R (y ∷ ys)
cons_pairs R y ys near rest i zero d l b = absurd (omega (arith, l))
cons_pairs R y ys near rest zero (suc j) d l b =
    near (get_or ys j d) (Contains-get_or ys j d (omega (arith, b)))
cons_pairs R y ys near rest (suc i) (suc j) d l b = rest i j d (omega (arith, l)) (omega (arith, b))

-- ---- the numbers of touched submissions

has_on : (n k : ℕ) (ks : List ℕ) (x : ℕ) → (Contains (met_with n ks) x ↔ ((n ≡ x) ⊎ Contains ks x))
    → Contains (met_with n (k ∷ ks)) x ↔ ((n ≡ x) ⊎ Contains (k ∷ ks) x)
has_on n k ks x rest = by (n == k) (nat_le n k) refl
  where
    by : (s t : Bool) → (n == k) ≡ s → Contains
        (if s then k ∷ ks else (if t then n ∷ k ∷ ks else k ∷ met_with n ks)) x
        ↔ ((n ≡ x) ⊎ Contains (k ∷ ks) x)
    by true t e = (
      λ c. inr c,
      λ p. elim p [
        | inl f ↦ head_at k x ks (sym (eqb-true n k e) ∙ f)
        | inr c ↦ c
      ],
    )
    by false true e = (
      λ c. cons_cases n (k ∷ ks) x c,
      λ p. elim p [ inl f ↦ head_at n x (k ∷ ks) f | inr c ↦ Contains-tail n (k ∷ ks) x c ],
    )
    by false false e = (
      λ c. elim (cons_cases k (met_with n ks) x c) [
        | inl f ↦ inr (head_at k x ks f)
        | inr d ↦ elim (rest.0 d) [ inl f ↦ inl f | inr g ↦ inr (Contains-tail k ks x g) ]
      ],
      λ p. elim p [
        | inl f ↦ Contains-tail k (met_with n ks) x (rest.1 (inl f))
        | inr c ↦ elim (cons_cases k ks x c) [
          | inl f ↦ head_at k x (met_with n ks) f
          | inr d
              ↦ Contains-tail k (met_with n ks) x (rest.1 (inr d))
        ]
      ],
    )

has_with : (n : ℕ) (ks : List ℕ) (x : ℕ) → Contains (met_with n ks) x ↔ ((n ≡ x) ⊎ Contains ks x)
has_with n [] x = (
  λ c. cons_cases n [] x c,
  λ p. elim p [ inl f ↦ head_at n x [] f | inr c ↦ absurd (none_in x c) ],
)
has_with n (k ∷ ks) x = has_on n k ks x (has_with n ks x)

ascends_on : (n k : ℕ) (ks : List ℕ) → IsAscending (k ∷ ks) → IsAscending (met_with n ks)
    → IsAscending (met_with n (k ∷ ks))
ascends_on n k ks h rest = by (n == k) (nat_le n k) refl refl
  where
    above : (x : ℕ) → Contains ks x → k < x
    above x c = head_pairs (λ a b. a < b) k ks x h c

    by : (s t : Bool) → (n == k) ≡ s → nat_le n k ≡ t
        → IsAscending (if s then k ∷ ks else (if t then n ∷ k ∷ ks else k ∷ met_with n ks))
    by true t e f = h
    by false true e f =
        let le = leb-true n k f in
        let ne : n ≡ k → ⊥ = λ s. false≢true (sym e ∙ eq-eqb n k s) in
        let less : n < k = elim (cases_eq n k) [
          | inl s ↦ absurd (ne s)
          | inr d
              ↦ omega (arith, le, d)
        ] in
        cons_pairs (λ a b. a < b) n (k ∷ ks)
        (λ x c. elim (cons_cases k ks x c) [
          | inl s ↦ omega (arith, less, s)
          | inr d
              ↦ omega (arith, less, above x d)
        ]) h
    by false false e f =
        let more = leb-false n k f in
        cons_pairs (λ a b. a < b) k (met_with n ks)
        (λ x c. elim ((has_with n ks x).0 c) [
          | inl s ↦ omega (arith, more, s)
          | inr d
              ↦ above x d
        ]) rest

with_ascends : (n : ℕ) (ks : List ℕ) → IsAscending ks → IsAscending (met_with n ks)
with_ascends n [] h = cons_pairs (λ a b. a < b) n [] (λ x c. absurd (none_in x c)) h
with_ascends n (k ∷ ks) h =
    ascends_on n k ks h (with_ascends n ks (tail_pairs (λ a b. a < b) k ks h))

abbrev union : List ℕ → List ℕ → List ℕ
union acc ks = fold (λ met k. met_with k met) acc ks

pub union_has : (acc ks : List ℕ) (x : ℕ) → Contains (union acc ks) x
    ↔ (Contains acc x ⊎ Contains ks x)
union_has acc [] x = (λ c. inl c, λ p. elim p [ inl c ↦ c | inr c ↦ absurd (none_in x c) ])
union_has acc (k ∷ ks) x =
    let h = union_has (met_with k acc) ks x in
    let w = has_with k acc x in (
      λ c. elim (h.0 c) [
        | inl d ↦ elim (w.0 d) [ inl e ↦ inr (head_at k x ks e) | inr a ↦ inl a ]
        | inr d ↦ inr (Contains-tail k ks x d)
      ],
      λ p. elim p [
        | inl a ↦ h.1 (inl (w.1 (inr a)))
        | inr c ↦ elim (cons_cases k ks x c) [
          | inl e ↦ h.1 (inl (w.1 (inl e)))
          | inr d
              ↦ h.1 (inr d)
        ]
      ],
    )

pub union_ascends : (acc ks : List ℕ) → IsAscending acc → IsAscending (union acc ks)
union_ascends acc [] h = h
union_ascends acc (k ∷ ks) h = union_ascends (met_with k acc) ks (with_ascends k acc h)
