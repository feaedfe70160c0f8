-- What lists contain.
use Rattle.std.proofs.Common.{◌≡◌, ◌<◌, ℕ, zero, suc, ◌⊎◌, inl, inr, List, [], ◌∷◌, length, get_or, map, refl, sym, subst, arith}
use Rattle.std.specs.Prelude.{Contains}
use Rattle.std.specs.List.{flat_map}
use Rattle.std.proofs.lemmas.List.Elements.{Contains-append_left, Contains-append_right, Contains-append_cases}

pub contains_none : {X : Type 0} (x : X) → Contains [] x → ⊥
contains_none x h = absurd (omega (arith, h.1))

pub contains_first : {X : Type 0} (x : X) (xs : List X) → Contains (x ∷ xs) x
contains_first x xs = (0, omega arith, refl)

pub contains_rest : {X : Type 0} (y x : X) (xs : List X) → Contains xs x → Contains (y ∷ xs) x
contains_rest y x xs h = Contains-append_right (y ∷ []) xs x h

pub contains_cases : {X : Type 0} (y x : X) (xs : List X) → Contains (y ∷ xs) x
    → (y ≡ x) ⊎ Contains xs x
contains_cases y x xs h = go h.0 h.1 h.2
  where
    go : (k : ℕ) → k < length (y ∷ xs) → get_or (y ∷ xs) k x ≡ x → (y ≡ x) ⊎ Contains xs x
    go zero lt is = inl is
    go (suc k) lt is = inr (k, omega (arith, lt), is)

-- an entry of a map comes from one of its list, and so of a flat_map
pub record IsMapped {X Y : Type 0} (f : X → Y) (xs : List X) (y : Y) : Type 0 where
  pub from : X
  pub has : Contains xs from
  pub is : f from ≡ y

pub mapped : {X Y : Type 0} (f : X → Y) (xs : List X) (y : Y) → Contains (map f xs) y
    → IsMapped f xs y
mapped f [] y h = absurd (contains_none y h)
mapped f (x ∷ xs) y h = elim (contains_cases (f x) y (map f xs) h) [
  | inl e ↦ record { from = x; has = contains_first x xs; is = e }
  | inr r ↦ let m = mapped f xs y r in
      record { from = m.from; has = contains_rest x m.from xs m.has; is = m.is }
]

pub contains_map : {X Y : Type 0} (f : X → Y) (xs : List X) (x : X) → Contains xs x
    → Contains (map f xs) (f x)
contains_map f [] x h = absurd (contains_none x h)
contains_map f (y ∷ xs) x h = elim (contains_cases y x xs h) [
  | inl e ↦ subst (λ z. Contains (map f (y ∷ xs)) (f z)) e (contains_first (f y) (map f xs))
  | inr r ↦ contains_rest (f y) (f x) (map f xs) (contains_map f xs x r)
]

pub record IsPart {X Y : Type 0} (f : X → List Y) (xs : List X) (y : Y) : Type 0 where
  pub from : X
  pub has : Contains xs from
  pub is : Contains (f from) y

pub part_of : {X Y : Type 0} (f : X → List Y) (xs : List X) (y : Y) → Contains (flat_map f xs) y
    → IsPart f xs y
part_of f [] y h = absurd (contains_none y h)
part_of f (x ∷ xs) y h = elim (Contains-append_cases (f x) (flat_map f xs) y h) [
  | inl e ↦ record { from = x; has = contains_first x xs; is = e }
  | inr r ↦ let m = part_of f xs y r in
      record { from = m.from; has = contains_rest x m.from xs m.has; is = m.is }
]

pub contains_part : {X Y : Type 0} (f : X → List Y) (xs : List X) (x : X) (y : Y) → Contains xs x
    → Contains (f x) y → Contains (flat_map f xs) y
contains_part f [] x y h is = absurd (contains_none x h)
contains_part f (z ∷ xs) x y h is = elim (contains_cases z x xs h) [
  | inl e ↦ Contains-append_left (f z) (flat_map f xs) y (subst (λ w. Contains (f w) y) (sym e) is)
  | inr r ↦ Contains-append_right (f z) (flat_map f xs) y (contains_part f xs x y r is)
]
