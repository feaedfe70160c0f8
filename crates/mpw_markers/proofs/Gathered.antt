-- Lists of lists.
use Rattle.std.proofs.Common.{◌≡◌, ℕ, ◌+◌, ◌<◌, Ok, Err, Result, List, [], ◌∷◌, ◌++◌, length, get_or, take, inl, inr, sym, subst, ap, ◌∙◌, arith}
use Rattle.std.specs.Prelude.{Contains, IfOk, ◌↔◌}
use Rattle.std.specs.List.{flat_map}
use Rattle.std.proofs.lemmas.List.{take_more, flat_map_more}
use Rattle.std.proofs.lemmas.List.Elements.{Contains-append_left, Contains-append_right, Contains-append_cases}
use Rattle.mpw_markers.specs.declared.marker.Marker.{Marker}
use Rattle.std.specs.List.Sorted.{IsPermutation}
use Rattle.std.proofs.lemmas.List.Sorted.{Contains-permutation, IsPermutation-sym}
use Rattle.mpw_markers.specs.Met.{IsAscending}
use Rattle.mpw_markers.specs.Internal.Runs.{AreMetBy}
use Rattle.mpw_markers.specs.Stitched.{IsListed}
use Rattle.mpw_markers.proofs.Unique.{cons_cases, Contains-head, Contains-tail}

-- what the list of the next element adds
pub flat_map_next : {X Y : Type 0} (f : X → List Y) (xs : List X) (i : ℕ) (x : X) → i < length xs
    → x ≡ get_or xs i x → flat_map f (take i xs) ++ f x ≡ flat_map f (take (i + 1) xs)
flat_map_next f xs i x l is =
    flat_map_more f [] (take i xs) x
    ∙ ap (flat_map f) (ap (λ y. take i xs ++ y ∷ []) is ∙ sym (take_more xs i x l))

-- the entries of a list of lists, one after another
pub in_flat_map : {X Y : Type 0} (f : X → List Y) (xs : List X) (y : Y) → Contains (flat_map f xs) y
    → (x : X) × Contains xs x × Contains (f x) y
in_flat_map f [] y c = absurd (omega (arith, c.1))
in_flat_map f (x ∷ xs) y c = elim (Contains-append_cases (f x) (flat_map f xs) y c) [
  | inl d ↦ (x, Contains-head x xs, d)
  | inr d ↦ let p = in_flat_map f xs y d in (p.0, Contains-tail x xs p.0 p.1, p.2)
]

pub from_part : {X Y : Type 0} (f : X → List Y) (xs : List X) (x : X) (y : Y) → Contains xs x
    → Contains (f x) y → Contains (flat_map f xs) y
from_part f [] x y c d = absurd (omega (arith, c.1))
from_part f (z ∷ xs) x y c d = elim (cons_cases z xs x c) [
  | inl e ↦ Contains-append_left (f z) (flat_map f xs) y (subst (λ w. Contains (f w) y) (sym e) d)
  | inr e ↦ Contains-append_right (f z) (flat_map f xs) y (from_part f xs x y e d)
]

pub listed : (lists : List (List Marker)) (m : Marker) → Contains (flat_map (λ list. list) lists) m
    ↔ IsListed lists m
listed lists m =
    (in_flat_map (λ list. list) lists m, λ p. from_part (λ list. list) lists p.0 m p.1 p.2)

-- the entries of all lists, sorted
pub same_parts : (lists : List (List Marker)) (all ordered seen : List Marker)
    → all ≡ flat_map (λ list. list) lists → IsPermutation all ordered → seen ≡ ordered
    → (m : Marker) → Contains seen m ↔ IsListed lists m
same_parts lists all ordered seen e p f m = (
  λ c. (listed lists m).0 (subst (λ (ms : List Marker). Contains ms m) e
      (Contains-permutation ordered all m (IsPermutation-sym all ordered p)
      (subst (λ (ms : List Marker). Contains ms m) f c))),
  λ c. subst (λ (ms : List Marker). Contains ms m) (sym f)
      (Contains-permutation all ordered m p
      (subst (λ (ms : List Marker). Contains ms m) (sym e) ((listed lists m).1 c))),
)

-- the numbers of all markers, sorted, each once
pub met_from : (markers : List Marker) (all numbers : List ℕ)
    → all ≡ flat_map (λ (m : Marker). m.met) markers → IsAscending numbers
    → ((n : ℕ) → Contains numbers n ↔ Contains all n) → AreMetBy markers numbers
met_from markers all numbers e a same = record {
  ascending = a;
  exact = λ n. (
    λ c. in_flat_map (λ (m : Marker). m.met) markers n
        (subst (λ (ns : List ℕ). Contains ns n) e ((same n).0 c)),
    λ p. (same n).1 (subst (λ (ns : List ℕ). Contains ns n) (sym e)
        (from_part (λ (m : Marker). m.met) markers p.0 n p.1 p.2)),
  );
}

pub met_from_result : {E : Type 0} (markers : List Marker) (all : List ℕ) (r : Result (List ℕ) E)
    → all ≡ flat_map (λ (m : Marker). m.met) markers → IfOk r (λ met. IsAscending met)
    → IfOk r (λ met. (n : ℕ) → Contains met n ↔ Contains all n)
    → IfOk r (λ met. AreMetBy markers met)
met_from_result markers all (Ok met) e a same = met_from markers all met e a same
met_from_result markers all (Err x) e a same = tt
