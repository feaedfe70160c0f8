-- Properties of some element of a list.
use Rattle.std.proofs.Common.{◌≡◌, ℕ, ◌<◌, List, [], ◌∷◌, ◌++◌, length, get_or, map, ◌⊎◌, inl, inr, subst, sym, ap, ◌∙◌, arith}
use Rattle.std.specs.Prelude.{AllPairs, Contains}
use Rattle.std.specs.List.Sorted.{IsPermutation}
use Rattle.std.proofs.lemmas.Bool.{cases_lt}
use Rattle.std.proofs.lemmas.List.{get_or-map, length-map, get_or_default}
use Rattle.std.proofs.lemmas.List.Elements.{Contains-get_or, Contains-append_left, Contains-push, Contains-push_cases}
use Rattle.std.proofs.lemmas.List.Sorted.{Contains-permutation}

-- some element of the list has P
abbrev pub Held : {X : Type 0} → (X → Type 0) → List X → Type 0
Held {X} P xs = (x : X) × Contains xs x × P x

pub Held-nil : {X : Type 0} (P : X → Type 0) → Held P [] → ⊥
Held-nil P h = omega (arith, h.1.1)

pub Held-push_left : {X : Type 0} (P : X → Type 0) (xs : List X) (y : X) → Held P xs
    → Held P (xs ++ y ∷ [])
Held-push_left P xs y h = (h.0, Contains-append_left xs (y ∷ []) h.0 h.1, h.2)

pub Held-push_new : {X : Type 0} (P : X → Type 0) (xs : List X) (y : X) → P y
    → Held P (xs ++ y ∷ [])
Held-push_new P xs y p = (y, Contains-push xs y, p)

pub Held-push_cases : {X : Type 0} (P : X → Type 0) (xs : List X) (y : X) → Held P (xs ++ y ∷ [])
    → Held P xs ⊎ P y
Held-push_cases P xs y h = elim (Contains-push_cases xs y h.0 h.1)
    [ inl c ↦ inl (h.0, c, h.2) | inr e ↦ inr (subst P (sym e) h.2) ]

pub Held-permutation : {X : Type 0} (P : X → Type 0) (xs ys : List X) → IsPermutation xs ys
    → Held P xs → Held P ys
Held-permutation P xs ys m h = (h.0, Contains-permutation xs ys h.0 m h.1, h.2)

-- an image has P, and so has an element what its image has
pub held_map : {X Y : Type 0} (f : X → Y) (xs : List X) (d : X) (P : Y → Type 0) → Held P (map f xs)
    → Held (λ x. P (f x)) xs
held_map f xs d P h =
    let inside : h.1.0 < length xs = omega (arith, h.1.1, length-map xs f) in (
      get_or xs h.1.0 d,
      Contains-get_or xs h.1.0 d inside,
      subst P (sym h.1.2 ∙ get_or-map f xs h.1.0 d h.0 inside) h.2,
    )

pub map_held : {X Y : Type 0} (f : X → Y) (xs : List X) (P : Y → Type 0) (x : X) → Contains xs x
    → P (f x) → Held P (map f xs)
map_held f xs P x c p =
    (f x, (c.0, omega (arith, c.1, length-map xs f), get_or-map f xs c.0 x (f x) c.1 ∙ ap f c.2), p)

-- an index of a contained element, with any default
pub place_of : {X : Type 0} (xs : List X) (d x : X) → Contains xs x → (k : ℕ) × (k < length xs)
    × (get_or xs k d ≡ x)
place_of xs d x c = (c.0, c.1, get_or_default xs c.0 d x c.1 ∙ c.2)

-- in a sorted list, two elements are equal, or one comes before the other
pub one_or_before : {X : Type 0} (R : X → X → Type 0) (xs : List X) (d x y : X) → AllPairs R xs
    → Contains xs x → Contains xs y → (x ≡ y) ⊎ (R x y ⊎ R y x)
one_or_before R xs d x y h c e = at (place_of xs d x c) (place_of xs d y e)
  where
    at : (i : ℕ) × (i < length xs) × (get_or xs i d ≡ x) → (j : ℕ) × (j < length xs)
        × (get_or xs j d ≡ y) → (x ≡ y) ⊎ (R x y ⊎ R y x)
    at p q = elim (cases_lt p.0 q.0) [
      | inl less
          ↦ inr (inl (subst (λ z. R z y) p.2
          (subst (λ z. R (get_or xs p.0 d) z) q.2 (h p.0 q.0 d less q.1))))
      | inr more ↦ elim (cases_lt q.0 p.0) [
        | inl less
            ↦ inr (inr (subst (λ z. R z x) q.2
            (subst (λ z. R (get_or xs q.0 d) z) p.2 (h q.0 p.0 d less p.1))))
        | inr same ↦
            let k : p.0 ≡ q.0 = omega arith in
            inl (sym p.2 ∙ ap (λ (n : ℕ). get_or xs n d) k ∙ q.2)
      ]
    ]
