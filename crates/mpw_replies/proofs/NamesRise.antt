-- Names in the order of their bytes.
use Rattle.std.proofs.Common.{◌≡◌, ℕ, zero, suc, ◌<◌, Bool, true, false, ◌&&◌, List, [], ◌∷◌, map, length, get_or, refl, arith}
use Rattle.std.specs.Prelude.{T, AllPairs}
use Rattle.std.specs.Cmp.Lexicographic.{nat_list_cmp_total}
use Rattle.std.specs.FinMap.Entries.{is_sorted, below_all, is_sorted-put}
use Rattle.std.specs.Ordering.{is_lt}
use Rattle.std.specs.declared.cmp.Ordering.{Ordering}
use Rattle.std.specs.declared.cmp.Ordering.TheVariants.{Less, Equal, Greater}
use Rattle.mpw_geom.specs.Names.{name_cmp, placed_by_name, by_name}
use Rattle.mpw_roles.specs.Hierarchy.{Name}

abbrev Entry : Type 0
Entry = List ℕ × Unit {0}

abbrev key : Entry → List ℕ
key e = e.0

first : (a b : Bool) → T (a && b) → T a
first true b p = tt
first false b p = p

second : (a b : Bool) → T (a && b) → T b
second true b p = p
second false b p = absurd p

less : (o : Ordering) → T (is_lt o) → o ≡ Less
less Less p = refl
less Equal p = absurd p
less Greater p = absurd p

placed_sorted : (xs : List (List ℕ)) → T (is_sorted name_cmp (placed_by_name xs))
placed_sorted [] = tt
placed_sorted (x ∷ xs) = is_sorted-put name_cmp nat_list_cmp_total x tt _ (placed_sorted xs)

below_at : (x : List ℕ) (es : List Entry) → T (below_all name_cmp x es) → (j : ℕ) (d : List ℕ)
    → j < length (map key es)
    → name_cmp x (get_or (map key es) j d) ≡ Less
below_at x [] h j d l = absurd (omega (arith, l))
below_at x (e ∷ es) h zero d l = less _ (first _ _ h)
below_at x (e ∷ es) h (suc j) d l = below_at x es (second _ _ h) j d (omega (arith, l))

rising_at : (es : List Entry) → T (is_sorted name_cmp es) → (i j : ℕ) (d : List ℕ) → i < j
    → j < length (map key es)
    → name_cmp (get_or (map key es) i d) (get_or (map key es) j d) ≡ Less
rising_at [] h i j d lt l = absurd (omega (arith, l))
rising_at (e ∷ es) h i zero d lt l = absurd (omega (arith, lt))
rising_at (e ∷ es) h zero (suc j) d lt l = below_at e.0 es (first _ _ h) j d (omega (arith, l))
rising_at (e ∷ es) h (suc i) (suc j) d lt l =
    rising_at es (second _ _ h) i j d (omega (arith, lt)) (omega (arith, l))

pub rising : (names : List Name) → AllPairs (λ a b. name_cmp a b ≡ Less) (by_name names)
rising names i j d lt l = rising_at (placed_by_name names) (placed_sorted names) i j d lt l
