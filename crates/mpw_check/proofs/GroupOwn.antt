-- The markers of a rule in the joined markers of groups.
use Rattle.std.proofs.Common.{◌≡◌, ◌∙◌, ℕ, zero, suc, ◌+◌, ◌<◌, ◌≤◌, ◌==◌, Bool, true, false, cond, List, [], ◌∷◌, ◌++◌, length, append-nil, Option, Some, None, refl, ap, subst, arith}
use Rattle.std.specs.Prelude.{All, filter, slice_get, slice_index_or}
use Rattle.std.proofs.lemmas.Bool.{eq-eqb, eqb-true}
use Rattle.std.proofs.lemmas.List.Elements.{All-map, filter-append}
use Rattle.mpw_markers.specs.declared.marker.Marker.{Marker}
use Rattle.mpw_columns_keys.specs.Firsts.{of_rule}
use Rattle.mpw_check_groups.specs.declared.joining.Owner.{Owner}
use Rattle.mpw_check_groups.specs.Joined.{joined_from, taken, taken_at, with_rule}
use Rattle.mpw_job.proofs.Tests.{is_false}

taken_rule : (place rule : ℕ) (ms : List Marker)
    → All (λ (m : Marker). m.key.rule ≡ rule) (taken place rule ms)
taken_rule place rule ms =
    All-map (λ (m : Marker). m.key.rule ≡ rule) (with_rule rule) (of_rule ms place)
    (λ i d lt. refl)

differs : (a b : ℕ) → (a ≡ b → ⊥) → (a == b) ≡ false
differs a b h = is_false (a == b) (λ e. h (eqb-true a b e))

all_kept : {X : Type 0} (p : X → Bool) (xs : List X) → All (λ x. p x ≡ true) xs → filter p xs ≡ xs
all_kept p [] h = refl
all_kept p (x ∷ xs) h =
    ap (λ b. cond b (x ∷ filter p xs) (filter p xs)) (h 0 x (omega arith))
    ∙ ap (λ ys. x ∷ ys) (all_kept p xs (λ i d lt. h (suc i) d (omega (arith, lt))))

none_kept : {X : Type 0} (p : X → Bool) (xs : List X) → All (λ x. p x ≡ false) xs
    → filter p xs ≡ []
none_kept p [] h = refl
none_kept p (x ∷ xs) h =
    ap (λ b. cond b (x ∷ filter p xs) (filter p xs)) (h 0 x (omega arith))
    ∙ none_kept p xs (λ i d lt. h (suc i) d (omega (arith, lt)))

own_taken : (place rule : ℕ) (ms : List Marker)
    → of_rule (taken place rule ms) rule ≡ taken place rule ms
own_taken place rule ms = all_kept (λ (m : Marker). m.key.rule == rule) (taken place rule ms)
    (λ i d lt. eq-eqb _ rule (taken_rule place rule ms i d lt))

other_taken : (place rule other : ℕ) (ms : List Marker) → (rule == other) ≡ false
    → of_rule (taken place rule ms) other ≡ []
other_taken place rule other ms differs =
    none_kept (λ (m : Marker). m.key.rule == other) (taken place rule ms)
    (λ i d lt. ap (λ n. n == other) (taken_rule place rule ms i d lt) ∙ differs)

module _ (lists : List (List Marker)) where
  before_joined : (k r : ℕ) (os : List Owner) → r < k → of_rule (joined_from lists k os) r ≡ []
  before_joined k r [] less = refl
  before_joined k r (o ∷ os) less =
      filter-append (λ (m : Marker). m.key.rule == r) (taken_at lists o k)
      (joined_from lists (k + 1) os)
      ∙ ap (λ ms. ms ++ of_rule (joined_from lists (k + 1) os) r)
      (other_taken o.place k r (slice_index_or lists o.group [])
      (differs k r (λ e. omega (arith, e, less))))
      ∙ before_joined (k + 1) r os (omega (arith, less))

  pub of_joined : (k : ℕ) (os : List Owner) (i : ℕ) (o : Owner) → slice_get os i ≡ Some o
      → (r : ℕ) → r ≡ k + i → of_rule (joined_from lists k os) r ≡ taken_at lists o r
  of_joined k [] i o at r e = absurd (let clash : None ≡ Some o = at in cc)
  of_joined k (p ∷ os) zero o at r e =
      let number : r ≡ k = omega (arith, e) in
      filter-append (λ (m : Marker). m.key.rule == r) (taken_at lists p k)
      (joined_from lists (k + 1) os)
      ∙ ap (λ ms. of_rule (taken_at lists p k) r ++ ms)
      (before_joined (k + 1) r os (omega (arith, number)))
      ∙ append-nil (of_rule (taken_at lists p k) r)
      ∙ subst (λ (n : ℕ). of_rule (taken_at lists p n) r ≡ taken_at lists p r) number
      (own_taken p.place r (slice_index_or lists p.group []))
      ∙ ap (λ (q : Owner). taken_at lists q r) (same p o at)
    where
      same : (a b : Owner) → (let x : Option Owner = Some a in x) ≡ Some b → a ≡ b
      same a b h = cc
  of_joined k (p ∷ os) (suc i) o at r e =
      filter-append (λ (m : Marker). m.key.rule == r) (taken_at lists p k)
      (joined_from lists (k + 1) os)
      ∙ ap (λ ms. ms ++ of_rule (joined_from lists (k + 1) os) r)
      (other_taken p.place k r (slice_index_or lists p.group [])
      (differs k r (λ f. omega (arith, e, f))))
      ∙ of_joined (k + 1) os i o at r (omega (arith, e))

  pub past_joined : (k : ℕ) (os : List Owner) (r : ℕ) → k + length os ≤ r
      → of_rule (joined_from lists k os) r ≡ []
  past_joined k [] r past = refl
  past_joined k (o ∷ os) r past =
      filter-append (λ (m : Marker). m.key.rule == r) (taken_at lists o k)
      (joined_from lists (k + 1) os)
      ∙ ap (λ ms. ms ++ of_rule (joined_from lists (k + 1) os) r)
      (other_taken o.place k r (slice_index_or lists o.group [])
      (differs k r (λ e. omega (arith, past, e))))
      ∙ past_joined (k + 1) os r (omega (arith, past))
