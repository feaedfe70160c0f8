-- The first index at which a test passes.
use Rattle.std.proofs.Common.{◌≡◌, ℕ, zero, suc, ◌+◌, ◌<◌, Bool, true, false, cond, not, ◌||◌, inl, inr, List, [], ◌∷◌, ◌++◌, length, get_or, take, Option, None, Some, is_some, refl, sym, ap, ◌∙◌, true≢false, arith}
use Rattle.std.specs.Prelude.{nat_lt, position, slice_get}
use Rattle.std.specs.List.{list_any, position_or_len}
use Rattle.std.specs.Option.{option_map}
use Rattle.std.proofs.lemmas.Bool.{cases_lt, lt-ltb, le-ltb}
use Rattle.mpw_roles.proofs.BoolLemmas.{neither}

module _ {X : Type 0} where
  -- an item that is there is the one at its index
  pub item-there : (xs : List X) (i : ℕ) (x d : X) → i < length xs → get_or xs i d ≡ x
      → slice_get xs i ≡ Some x
  item-there [] i x d inside at = absurd (omega arith)
  item-there (y ∷ ys) zero x d inside at = ap Some at
  item-there (y ∷ ys) (suc i) x d inside at = item-there ys i x d (omega arith) at

  pub position-cons : (p : X → Bool) (x : X) (xs : List X)
      → position p (x ∷ xs) ≡ cond (p x) (Some 0) (option_map suc (position p xs))
  position-cons p x xs =
      let n = position_or_len p xs in
      elim (p x) as (λ b. cond (nat_lt (cond (not b) (1 + n) 0) (suc (length xs)))
      (Some (cond (not b) (1 + n) 0)) None
      ≡ cond b (Some 0) (option_map suc (position p xs))) [
        | true ↦ ap (λ b. cond b (Some 0) None) (lt-ltb 0 (suc (length xs)) (omega arith))
        | false ↦ elim (cases_lt n (length xs)) [
          | inl inside ↦
              ap (λ b. cond b (Some (1 + n)) None)
              (lt-ltb (1 + n) (suc (length xs)) (omega arith))
              ∙ ap Some (omega arith)
              ∙ sym (ap (λ b. option_map suc (cond b (Some n) None)) (lt-ltb n (length xs) inside))
          | inr past ↦
              ap (λ b. cond b (Some (1 + n)) None) (le-ltb (1 + n) (suc (length xs)) (omega arith))
              ∙ sym (ap (λ b. option_map suc (cond b (Some n) None)) (le-ltb n (length xs) past))
        ]
      ]

  -- there is one if the test passes somewhere
  pub position-any : (p : X → Bool) (xs : List X) → is_some (position p xs) ≡ list_any p xs
  position-any p [] = refl
  position-any p (x ∷ xs) =
      ap is_some (position-cons p x xs)
      ∙ elim (p x) as (λ b. is_some (cond b (Some 0) (option_map suc (position p xs)))
      ≡ (b || list_any p xs)) [
        | true ↦ refl
        | false ↦ mapped (position p xs) ∙ position-any p xs
      ]
    where
      mapped : (o : _) → is_some (option_map suc o) ≡ is_some o
      mapped None = refl
      mapped (Some i) = refl

  pub position-none : (p : X → Bool) (xs : List X) → list_any p xs ≡ false → None ≡ position p xs
  position-none p xs none = never (position p xs) (position-any p xs ∙ none)
    where
      never : (o : Option ℕ) → is_some o ≡ false → None ≡ o
      never None is = refl
      never (Some i) is = absurd (true≢false is)

  pub position-first : (p : X → Bool) (xs : List X) (i : ℕ) (d : X) → i < length xs
      → list_any p (take i xs) ≡ false → p (get_or xs i d) ≡ true → Some i ≡ position p xs
  position-first p [] i d inside none here = absurd (omega arith)
  position-first p (x ∷ xs) zero d inside none here =
      sym (position-cons p x xs
      ∙ ap (λ b. cond b (Some 0) (option_map suc (position p xs))) here)
  position-first p (x ∷ xs) (suc i) d inside none here =
      let apart = neither (p x) (list_any p (take i xs)) none in
      ap (option_map suc) (position-first p xs i d (omega arith) apart.1 here)
      ∙ sym (position-cons p x xs
      ∙ ap (λ b. cond b (Some 0) (option_map suc (position p xs))) apart.0)

  -- in two lists
  pub position-left : (p : X → Bool) (xs ys : List X) (i : ℕ) → position p xs ≡ Some i
      → position p (xs ++ ys) ≡ Some i
  position-left p [] ys i at = cc
  position-left p (x ∷ xs) ys i at =
      position-cons p x (xs ++ ys)
      ∙ elim (p x) as (λ b. cond b (Some 0) (option_map suc (position p xs)) ≡ Some i
      → cond b (Some 0) (option_map suc (position p (xs ++ ys))) ≡ Some i) [
        | true ↦ λ is. is
        | false ↦ λ is. later (position p xs) (λ j found. position-left p xs ys j found) refl is
      ] (sym (position-cons p x xs) ∙ at)
    where
      later : (o : _) → ((j : ℕ) → position p xs ≡ Some j → position p (xs ++ ys) ≡ Some j)
          → position p xs ≡ o → option_map suc o ≡ Some i
          → option_map suc (position p (xs ++ ys)) ≡ Some i
      later None found at is = cc
      later (Some j) found at is = ap (option_map suc) (found j at) ∙ is

  pub position-right : (p : X → Bool) (xs ys : List X) → position p xs ≡ None
      → position p (xs ++ ys) ≡ option_map (λ i. length xs + i) (position p ys)
  position-right p [] ys none = same (position p ys)
    where
      same : (o : _) → o ≡ option_map (λ i. 0 + i) o
      same None = refl
      same (Some i) = ap Some (omega arith)
  position-right p (x ∷ xs) ys none =
      position-cons p x (xs ++ ys)
      ∙ elim (p x) as (λ b. cond b (Some 0) (option_map suc (position p xs)) ≡ None
      → cond b (Some 0) (option_map suc (position p (xs ++ ys)))
      ≡ option_map (λ i. suc (length xs) + i) (position p ys)) [
        | true ↦ λ is. cc
        | false ↦ λ is. ap (option_map suc) (position-right p xs ys (behind (position p xs) is))
            ∙ twice (position p ys)
      ] (sym (position-cons p x xs) ∙ none)
    where
      behind : (o : _) → option_map suc o ≡ None → o ≡ None
      behind None is = refl
      behind (Some i) is = cc

      twice : (o : _) → option_map suc (option_map (λ i. length xs + i) o)
          ≡ option_map (λ i. suc (length xs) + i) o
      twice None = refl
      twice (Some i) = ap Some (omega arith)

  -- one more item at the end, for which the test fails, changes nothing
  pub position-behind : (p : X → Bool) (xs : List X) (x : X) → p x ≡ false
      → position p (xs ++ x ∷ []) ≡ position p xs
  position-behind p [] x fails =
      position-cons p x [] ∙ ap (λ b. cond b (Some 0) None) fails
  position-behind p (y ∷ ys) x fails =
      position-cons p y (ys ++ x ∷ [])
      ∙ ap (λ o. cond (p y) (Some 0) (option_map suc o)) (position-behind p ys x fails)
      ∙ sym (position-cons p y ys)

  -- a test that passes at the same items finds the same index
  pub position-same : (p q : X → Bool) (xs : List X)
      → ((i : ℕ) (d : X) → i < length xs → p (get_or xs i d) ≡ q (get_or xs i d))
      → position p xs ≡ position q xs
  position-same p q [] same = refl
  position-same p q (x ∷ xs) same =
      position-cons p x xs
      ∙ (λ t. cond (same 0 x (omega arith) t) (Some 0) (option_map suc
      (position-same p q xs (λ i d inside. same (suc i) d (omega arith)) t)))
      ∙ sym (position-cons q x xs)

  -- the item at the index and those before determine it
  pub position-at : (p : X → Bool) (xs : List X) (i : ℕ) (d : X) → i < length xs
      → p (get_or xs i d) ≡ true → ((k : ℕ) → k < i → p (get_or xs k d) ≡ false)
      → Some i ≡ position p xs
  position-at p [] i d inside at first = absurd (omega arith)
  position-at p (x ∷ xs) zero d inside at first =
      sym (position-cons p x xs ∙ ap (λ b. cond b (Some 0) (option_map suc (position p xs))) at)
  position-at p (x ∷ xs) (suc i) d inside at first =
      sym (position-cons p x xs
      ∙ (λ t. cond (first 0 (omega arith) t) (Some 0) (option_map suc
      (sym (position-at p xs i d (omega arith) at (λ k below. first (suc k) (omega arith))) t))))
