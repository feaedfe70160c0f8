-- Counts of edges that cross a row.
use Rattle.std.proofs.Common.{◌≡◌, ◌⊎◌, inl, inr, refl, sym, ◌∙◌, ℕ, ◌+◌, ◌<◌, ◌≤ℤ◌, ◌<ℤ◌, ℤ, Bool, true, false, cond, arith, List, [], ◌∷◌, length, get_or, take, All, count_by}
use Rattle.std.specs.Prelude.{int_lt}
use Rattle.std.proofs.lemmas.Int.{ints}
use Rattle.std.proofs.lemmas.List.Sums.{sum_by-cons, sum_by_more}
use Rattle.std.proofs.lemmas.List.Elements.{All-head, All-tail}
use Rattle.mpw_geom.proofs.Tests.{lt_from_test}

-- two tests that agree on each element of a list give the same count
pub count_by_agree : {X : Type 0} (p q : X → Bool) (xs : List X) → All (λ x. p x ≡ q x) xs
    → count_by p xs ≡ count_by q xs
count_by_agree p q [] h = refl
count_by_agree {X} p q (x ∷ xs) h =
    sum_by-cons (λ x. cond (p x) 1 0) x xs
    ∙ (rw (
      All-head (λ x. p x ≡ q x) x xs h,
      count_by_agree p q xs (All-tail (λ x. p x ≡ q x) x xs h),
    ))
    ∙ sym (sum_by-cons (λ x. cond (q x) 1 0) x xs)

-- one more element
pub count_by_next : {X : Type 0} (p : X → Bool) (xs : List X) (k : ℕ) (d : X) → k < length xs
    → count_by p (take (k + 1) xs) ≡ count_by p (take k xs) + cond (p (get_or xs k d)) 1 0
count_by_next p xs k d h = sum_by_more (λ x. cond (p x) 1 0) xs k d h

-- order of numbers by cases
pub cases_lt_z : (a b : ℤ) → (a <ℤ b) ⊎ (b ≤ℤ a)
cases_lt_z a b =
    elim (int_lt a b) as (λ t. (int_lt a b ≡ t) → (a <ℤ b) ⊎ (b ≤ℤ a)) [
      | true ↦ λ h. inl (lt_from_test a b h)
      | false ↦ λ h. inr (le_from_false a b h)
    ] refl
  where
    le_from_false : (a b : ℤ) → int_lt a b ≡ false → b ≤ℤ a
    le_from_false a b h = grind (arith, ints)
