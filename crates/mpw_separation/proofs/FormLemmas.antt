-- Sorting distinct names leaves their number unchanged.
use Rattle.std.proofs.Common.{◌≡◌, ℕ, suc, ◌+◌, ◌≤◌, Bool, true, false, ◌&&◌, ◌||◌, List, [], ◌∷◌, length, map, Option, Some, inl, inr, refl, sym, ap, ◌∙◌, not, cond, eq-eqb, arith}
use Rattle.std.specs.Prelude.{T, ◌==◌, is_some}
use Rattle.std.specs.Cmp.Lexicographic.{nat_list_cmp_total, texts_ties}
use Rattle.std.specs.FinMap.Entries.{find, is_sorted, is_sorted-put, length-put}
use Rattle.std.proofs.lemmas.Bool.{cases_eq, ne_eqb}
use Rattle.std.proofs.lemmas.List.{length-map}
use Rattle.mpw_geom.specs.Names.{name_eq, name_cmp, contains_name, placed_by_name, by_name}
use Rattle.mpw_geom.proofs.NamesLemmas.{in_by_name}
use Rattle.mpw_roles.specs.Hierarchy.{Name}
use Rattle.mpw_roles.specs.Order.{are_distinct}

abbrev Entry : Type 0
Entry = Name × Unit {0}

placed-sorted : (ns : List Name) → T (is_sorted name_cmp (placed_by_name ns))
placed-sorted [] = tt
placed-sorted (n ∷ ns) = is_sorted-put name_cmp nat_list_cmp_total n tt _ (placed-sorted ns)

some-or : (b c : Bool) (o : Option (Unit {0})) → is_some o ≡ c
    → is_some (cond b (Some tt) o) ≡ (b || c)
some-or true c o e = refl
some-or false c o e = e

-- a name is found if it is one of the names
found-any : (q : Name) (es : List Entry)
    → is_some (find name_cmp q es) ≡ contains_name (map (λ (e : Entry). e.0) es) q
found-any q [] = refl
found-any q (e ∷ es) =
    ap (λ b. is_some (cond b (Some tt) (find name_cmp q es))) (sym (texts_ties q e.0))
    ∙ some-or (name_eq q e.0) (contains_name (map (λ (x : Entry). x.0) es) q)
    (find name_cmp q es) (found-any q es)

one-more : (n : Name) (ns : List Name) → length (placed_by_name (n ∷ ns))
    ≡ cond (contains_name ns n) (length (placed_by_name ns)) (length (placed_by_name ns) + 1)
one-more n ns = length-put name_cmp nat_list_cmp_total n tt (placed_by_name ns) (placed-sorted ns)
    ∙ ap (λ b. cond b (length (placed_by_name ns)) (length (placed_by_name ns) + 1))
    (found-any n (placed_by_name ns) ∙ in_by_name n ns)

within : (b : Bool) (k m l : ℕ) → m ≤ l → k ≡ cond b m (m + 1) → k ≤ suc l
within true k m l h e = omega (arith, e, h)
within false k m l h e = omega (arith, e, h)

no-more : (ns : List Name) → length (placed_by_name ns) ≤ length ns
no-more [] = omega arith
no-more (n ∷ ns) =
    within (contains_name ns n) (length (placed_by_name (n ∷ ns))) (length (placed_by_name ns))
    (length ns) (no-more ns) (one-more n ns)

grown : (b : Bool) (k m l : ℕ) (d : Bool) → m ≤ l → (m == l) ≡ d → k ≡ cond b m (m + 1)
    → (k == suc l) ≡ (not b && d)
grown true k m l d h e f = ne_eqb k (suc l) (λ g. omega (arith, h, f, g))
grown false k m l d h e f = elim (cases_eq m l) [
  | inl s ↦ eq-eqb k (suc l) (omega (arith, f, s)) ∙ sym (eq-eqb m l s) ∙ e
  | inr o ↦ ne_eqb k (suc l) (λ g. o (omega (arith, f, g))) ∙ sym (ne_eqb m l o) ∙ e
]

placed-many : (ns : List Name) → (length (placed_by_name ns) == length ns) ≡ are_distinct ns
placed-many [] = refl
placed-many (n ∷ ns) =
    grown (contains_name ns n) (length (placed_by_name (n ∷ ns))) (length (placed_by_name ns))
    (length ns) (are_distinct ns) (no-more ns) (placed-many ns) (one-more n ns)

pub as-many : (ns : List Name) → (length (by_name ns) == length ns) ≡ are_distinct ns
as-many ns =
    ap (λ k. k == length ns) (length-map (placed_by_name ns) (λ (e : Entry). e.0)) ∙ placed-many ns
