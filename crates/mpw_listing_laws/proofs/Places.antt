-- Lines of the indexes of a list, one by one.
use Rattle.std.proofs.Common.{◌≡◌, ◌∙◌, ℕ, zero, suc, ◌+◌, ◌<◌, ◌≤◌, List, [], ◌∷◌, ◌++◌, length, get_or, Option, None, Some, refl, sym, ap, subst, inl, inr, arith}
use Rattle.std.specs.Prelude.{slice_get, AllPairs, Contains}
use Rattle.std.specs.Option.{option_to_list}
use Rattle.std.proofs.lemmas.List.Elements.{Contains-get_or}
use Rattle.std.proofs.lemmas.List.Kept.{AllPairs-cons}
use Rattle.std.proofs.lemmas.Option.{same_Some, none-some, slice_get_past}
use Rattle.mpw_markers.proofs.Unique.{cons_cases, Contains-head, Contains-tail}
use Rattle.mpw_replies.specs.Listing.{Listed}

-- the lines that the elements of a list give, each by its index, counted from a number on; and those indexes
abbrev pub told_from : {X : Type 0} → (ℕ → X → Option Listed) → ℕ → List X → List Listed
told_from g n [] = []
told_from g n (x ∷ xs) = option_to_list (g n x) ++ told_from g (n + 1) xs

abbrev pub place_if : Option Listed → ℕ → List ℕ
place_if None n = []
place_if (Some line) n = n ∷ []

abbrev pub places_from : {X : Type 0} → (ℕ → X → Option Listed) → ℕ → List X → List ℕ
places_from g n [] = []
places_from g n (x ∷ xs) = place_if (g n x) n ++ places_from g (n + 1) xs

-- the element at that index gives the line
pub record Gives {X : Type 0} (g : ℕ → X → Option Listed) (n : ℕ) (xs : List X) (place : ℕ)
    (line : Listed) : Type 0 where
  pub i : ℕ
  pub x : X
  pub place_is : place ≡ n + i
  pub at : slice_get xs i ≡ Some x
  pub told : g place x ≡ Some line

-- exactly those indexes give lines
pub record AreGiven {X : Type 0} (g : ℕ → X → Option Listed) (n : ℕ) (xs : List X)
    (places : List ℕ) (lines : List Listed) : Type 0 where
  pub above : (p : ℕ) → Contains places p → n ≤ p
  pub ascending : AllPairs (λ a b. a < b) places
  pub sound : (p : ℕ) → Contains places p → (line : Listed) × Gives g n xs p line
  pub complete : (p : ℕ) (line : Listed) → Gives g n xs p line → Contains places p
  pub as_many : length lines ≡ length places
  pub each : (k p : ℕ) (line : Listed) → slice_get places k ≡ Some p → slice_get lines k ≡ Some line
      → Gives g n xs p line

later : {X : Type 0} (g : ℕ → X → Option Listed) (n : ℕ) (x : X) (xs : List X) (p : ℕ)
    (line : Listed) → Gives g (n + 1) xs p line → Gives g n (x ∷ xs) p line
later g n x xs p line h = record {
  i = suc h.i;
  x = h.x;
  place_is = (let e = h.place_is in omega (arith, e));
  at = h.at;
  told = h.told;
}

-- the line is that of the first element, or of one after it
split : {X : Type 0} (g : ℕ → X → Option Listed) (n : ℕ) (x : X) (xs : List X) (p : ℕ)
    (line : Listed) → Gives g n (x ∷ xs) p line → (P : Type 0)
    → (p ≡ n → g n x ≡ Some line → P) → (Gives g (n + 1) xs p line → P) → P
split {X} g n x xs p line h P first rest = by h.i h.place_is h.at
  where
    by : (i : ℕ) → p ≡ n + i → slice_get (x ∷ xs) i ≡ Some h.x → P
    by zero e at =
        let here : p ≡ n = omega (arith, e) in
        first here (ap (λ k. g k x) (sym here) ∙ ap (g p) (same_Some x h.x at) ∙ h.told)
    by (suc j) e at = rest (record {
      i = j;
      x = h.x;
      place_is = omega (arith, e);
      at = at;
      told = h.told;
    })

no_more : (p : ℕ) → Contains [] p → ⊥
no_more p c = omega (arith, c.1)

on_none : {X : Type 0} (g : ℕ → X → Option Listed) (n : ℕ) (x : X) (xs : List X)
    (places : List ℕ) (lines : List Listed) → g n x ≡ None → AreGiven g (n + 1) xs places lines
    → AreGiven g n (x ∷ xs) places lines
on_none g n x xs places lines none h = record {
  above = λ p c. (let l = h.above p c in omega (arith, l));
  ascending = h.ascending;
  sound = λ p c. let s = h.sound p c in (s.0, later g n x xs p s.0 s.1);
  complete = λ p line k. split g n x xs p line k (Contains places p)
      (λ e f. absurd (none-some line (sym none ∙ f))) (h.complete p line);
  as_many = h.as_many;
  each = λ k p line a b. later g n x xs p line (h.each k p line a b);
}

on_some : {X : Type 0} (g : ℕ → X → Option Listed) (n : ℕ) (x : X) (xs : List X)
    (places : List ℕ) (lines : List Listed) (own : Listed) → g n x ≡ Some own
    → AreGiven g (n + 1) xs places lines → AreGiven g n (x ∷ xs) (n ∷ places) (own ∷ lines)
on_some {X} g n x xs places lines own some h = record {
  above = λ p c. elim (cons_cases n places p c) [
    | inl e ↦ omega (arith, e)
    | inr d ↦ let l = h.above p d in omega (arith, l)
  ];
  ascending = AllPairs-cons (λ a b. a < b) n places (λ k d l. behind k d l) h.ascending;
  sound = λ p c. elim (cons_cases n places p c) [
    | inl e ↦ (own, subst (λ q. Gives g n (x ∷ xs) q own) e here)
    | inr d ↦ let s = h.sound p d in (s.0, later g n x xs p s.0 s.1)
  ];
  complete = λ p line k. split g n x xs p line k (Contains (n ∷ places) p)
      (λ e f. subst (Contains (n ∷ places)) (sym e) (Contains-head n places))
      (λ r. Contains-tail n places p (h.complete p line r));
  as_many = ap suc h.as_many;
  each = λ k p line a b. each k p line a b;
}
  where
    here : Gives g n (x ∷ xs) n own
    here = record { i = 0; x = x; place_is = omega arith; at = refl; told = some }

    behind : (k d : ℕ) → k < length places → n < get_or places k d
    behind k d l =
        let m = h.above (get_or places k d) (Contains-get_or places k d l) in omega (arith, m)

    each : (k p : ℕ) (line : Listed) → slice_get (n ∷ places) k ≡ Some p
        → slice_get (own ∷ lines) k ≡ Some line → Gives g n (x ∷ xs) p line
    each zero p line a b =
        subst (λ q. Gives g n (x ∷ xs) q line) (same_Some n p a)
        (subst (Gives g n (x ∷ xs) n) (same_Some own line b) here)
    each (suc k) p line a b = later g n x xs p line (h.each k p line a b)

given_on : {X : Type 0} (g : ℕ → X → Option Listed) (n : ℕ) (x : X) (xs : List X)
    (o : Option Listed) → g n x ≡ o
    → AreGiven g (n + 1) xs (places_from g (n + 1) xs) (told_from g (n + 1) xs)
    → AreGiven g n (x ∷ xs) (place_if o n ++ places_from g (n + 1) xs)
    (option_to_list o ++ told_from g (n + 1) xs)
given_on g n x xs None e rest = on_none g n x xs _ _ e rest
given_on g n x xs (Some line) e rest = on_some g n x xs _ _ line e rest

pub given : {X : Type 0} (g : ℕ → X → Option Listed) (n : ℕ) (xs : List X)
    → AreGiven g n xs (places_from g n xs) (told_from g n xs)
given g n [] = record {
  above = λ p c. absurd (no_more p c);
  ascending = λ i j d l b. absurd (omega (arith, b));
  sound = λ p c. absurd (no_more p c);
  complete = λ p line k. absurd (none-some k.x (sym (slice_get_past [] k.i (omega arith)) ∙ k.at));
  as_many = refl;
  each = λ k p line a b. absurd (none-some p (sym (slice_get_past [] k (omega arith)) ∙ a));
}
given g n (x ∷ xs) = given_on g n x xs (g n x) refl (given g (n + 1) xs)
