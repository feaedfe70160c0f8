-- The results of the sorts.
use Rattle.std.proofs.Common.{◌≡◌, refl, inl, inr, zero, suc, ◌≤ℤ◌, ◌<ℤ◌, ℤ, Bool, true, false, cond, List, [], ◌∷◌, get_or, arith, Contains}
use Rattle.std.specs.Prelude.{int_lt}
use Rattle.std.specs.Ordering.{int_cmp, int_eq, eq_by_cmp, is_lt, ordering_then}
use Rattle.std.specs.declared.cmp.Ordering.{Ordering}
use Rattle.std.specs.declared.cmp.Ordering.TheVariants.{Less, Equal, Greater}
use Rattle.std.specs.List.Sorted.{IsPermutation, IsSorted, IsSortedByKey, IsStrictlySortedBy}
use Rattle.std.specs.List.Retain.{IsFiltered, DiffersFromLast}
use Rattle.std.proofs.lemmas.Int.{ints}
use Rattle.std.proofs.lemmas.Cmp.{int_cmp_total, int_eq_equiv}
use Rattle.std.proofs.lemmas.List.Elements.{All-from_recursion}
use Rattle.std.proofs.lemmas.List.Filters.{dedup_is}
use Rattle.std.proofs.lemmas.List.Kept.{Contains-dedup, IsStrictlySortedBy-dedup}
use Rattle.std.proofs.lemmas.List.Sorted.{sorted_far, ranks_by, Contains-permutation}
use Rattle.std.proofs.lemmas.Bool.{true≢false, cases_lt}
use Rattle.std.proofs.lemmas.Bool.Decides.{Decides-int_eq}
use Rattle.mpw_geom.proofs.Tests.{lt_from_test}
use Rattle.mpw_shapes.specs.declared.edge.Edge.{Edge}
use Rattle.mpw_shapes.specs.Internal.Edges.{AreApart, AreFromLeft, AreFromBelow}

le_from_not_lt : (a b : ℤ) → int_lt a b ≡ false → b ≤ℤ a
le_from_not_lt a b h = grind (arith, ints)

le_from_cmp : (a b : ℤ) → is_lt (int_cmp a b) ≡ false → b ≤ℤ a
le_from_cmp a b h =
    elim (int_lt a b) as (λ t. (int_lt a b ≡ t) → b ≤ℤ a) [
      | true ↦ λ t. absurd (true≢false (rw t at h))
      | false ↦ λ t. le_from_not_lt a b t
    ] refl

-- what is sorted by two keys is sorted by the first
pub first_of_two : (o p : Ordering) → is_lt (ordering_then o p) ≡ false → is_lt o ≡ false
first_of_two Less p h = h
first_of_two Equal p h = refl
first_of_two Greater p h = refl

pub from_left_from_sorted : (edges : List Edge) → IsSortedByKey (λ (e : Edge). e.x) int_cmp edges
    → AreFromLeft edges
from_left_from_sorted edges sorted i j d l h =
    le_from_cmp (get_or edges j d).x (get_or edges i d).x
    (sorted_far (λ (a b : Edge). is_lt (int_cmp a.x b.x))
    (ranks_by int_cmp_total (λ (e : Edge). e.x)) edges sorted i j d l h)

pub from_below_from_apart : (rows : List ℤ) → AreApart rows → AreFromBelow rows
from_below_from_apart rows apart i j d l h =
    elim (cases_lt i j) [
      | inl lt ↦ let p = apart i j d lt h in omega (arith, ints, p)
      | inr ge ↦ let same : i ≡ j = omega (arith, l, ge) in rw same (omega (arith, ints))
    ]

lt_from_less : (a b : ℤ) → int_cmp a b ≡ Less → a <ℤ b
lt_from_less a b h =
    elim (int_lt a b) as (λ t. (int_lt a b ≡ t) → a <ℤ b) [
      | true ↦ λ t. lt_from_test a b t
      | false ↦ λ t. absurd (not_less (int_lt b a) (rw t at h))
    ] refl
  where
    not_less : (t : Bool) → ◌≡◌ {A = Ordering} (cond t Greater Equal) Less → ⊥
    not_less true e = cc
    not_less false e = cc

apart_from_strict : (rows : List ℤ) → IsStrictlySortedBy int_cmp rows → AreApart rows
unfolding IsStrictlySortedBy
apart_from_strict [] strict i j d l h = absurd (omega (arith, h))
apart_from_strict (x ∷ xs) strict zero zero d l h = absurd (omega (arith, l))
apart_from_strict (x ∷ xs) strict zero (suc j) d l h = lt_from_less x (get_or xs j d)
    (All-from_recursion (λ y. int_cmp x y ≡ Less) xs strict.0 j d (omega (arith, h)))
apart_from_strict (x ∷ xs) strict (suc i) zero d l h = absurd (omega (arith, l))
apart_from_strict (x ∷ xs) strict (suc i) (suc j) d l h =
    apart_from_strict xs strict.1 i j d (omega (arith, l)) (omega (arith, h))

ties : (a b : ℤ) → int_eq a b ≡ eq_by_cmp int_cmp a b
ties a b = refl

-- the result of a sort and the removal of repeats
pub apart_from_sorted : (sorted rows : List ℤ) → IsSorted int_cmp sorted
    → IsFiltered (DiffersFromLast int_eq) [] sorted rows → AreApart rows
apart_from_sorted sorted rows up kept = rw (dedup_is int_eq sorted rows kept)
    (apart_from_strict _ (IsStrictlySortedBy-dedup int_cmp_total ties sorted up))

pub kept_heights : (heights sorted rows : List ℤ) (y : ℤ) → IsPermutation heights sorted
    → IsFiltered (DiffersFromLast int_eq) [] sorted rows → Contains heights y → Contains rows y
kept_heights heights sorted rows y same kept has =
    rw (dedup_is int_eq sorted rows kept)
    (Contains-dedup int_eq_equiv (λ a b. (Decides-int_eq a b).0) sorted y
    (Contains-permutation heights sorted y same has))
