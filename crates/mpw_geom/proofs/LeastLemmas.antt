-- `least_name` is the least name, and the only one.
use Rattle.std.proofs.Common.{◌≡◌, ℕ, Bool, true, false, cond, ◌||◌, inl, inr, List, [], ◌∷◌, ◌++◌, map, Option, None, Some, refl, sym, ap, subst, ◌∙◌, true≢false}
use Rattle.std.specs.Ordering.{is_lt, ordering_reverse}
use Rattle.std.specs.declared.cmp.Ordering.{Ordering}
use Rattle.std.specs.declared.cmp.Ordering.TheVariants.{Less, Equal, Greater}
use Rattle.std.specs.Cmp.{IsStrictWeakOrder}
use Rattle.std.specs.Cmp.Lexicographic.{nat_list_cmp_total}
use Rattle.std.specs.FinMap.{slice_cmp-IsAntisymmetric, nat_cmp-IsAntisymmetric}
use Rattle.std.specs.FinMap.Entries.{by_order, put}
use Rattle.std.proofs.lemmas.List.Folds.{list_any-append}
use Rattle.std.proofs.lemmas.List.MinMax.{ranks_by}
use Rattle.mpw_geom.specs.Names.{name_eq, name_cmp, contains_name, placed_by_name}
use Rattle.mpw_geom.specs.Least.{first_name, least_name, lesser, IsLeast}
use Rattle.mpw_geom.proofs.Linked.{same_name, name_eq-refl, or_right, or_cases}

abbrev Name : Type 0
Name = List ℕ

abbrev less : Name → Name → Bool
less a b = is_lt (name_cmp a b)

order : IsStrictWeakOrder less
order = ranks_by nat_list_cmp_total (λ (n : Name). n)

refuted : (b : Bool) → (b ≡ true → ⊥) → b ≡ false
refuted true never = absurd (never refl)
refuted false never = refl

pub not_both : (b : Bool) → b ≡ true → b ≡ false → ⊥
not_both b is other = true≢false (sym is ∙ other)

not_itself : (a : Name) → less a a ≡ false
not_itself a = refuted (less a a) (λ is. not_both (less a a) is (order.one_way a a is))

-- a name before the least of the others
abbrev earlier : Name → Option Name → Option Name
earlier n None = Some n
earlier n (Some y) = by_order (name_cmp n y) (Some n) (Some y) (Some y)

first-put : (n : Name) (placed : List (Name × Unit {0}))
    → first_name (map (λ (e : Name × Unit {0}). e.0) (put name_cmp n tt placed))
    ≡ earlier n (first_name (map (λ (e : Name × Unit {0}). e.0) placed))
first-put n [] = refl
first-put n (e ∷ es) =
    elim (name_cmp n e.0) as (λ o. first_name
    (map (λ (x : Name × Unit {0}). x.0)
    (by_order o ((n, tt) ∷ e ∷ es) ((e.0, tt) ∷ es) (e ∷ put name_cmp n tt es)))
    ≡ by_order o (Some n) (Some e.0) (Some e.0)) [
      | Less ↦ refl
      | Equal ↦ refl
      | Greater ↦ refl
    ]

least-earlier : (n : Name) (ns : List Name) (o : Option Name) → IsLeast ns o
    → IsLeast (n ∷ ns) (earlier n o)
least-earlier n ns None none = (
  ap (λ b. b || contains_name ns n) (name_eq-refl n),
  λ m there. elim (or_cases (name_eq m n) (contains_name ns m) there) [
    | inl here ↦ ap (λ k. less k n) (same_name m n here) ∙ not_itself n
    | inr later ↦ absurd (not_both (contains_name ns m) later (none m))
  ],
)
least-earlier n ns (Some y) least =
    elim (name_cmp n y) as (λ o. name_cmp n y ≡ o
    → IsLeast (n ∷ ns) (by_order o (Some n) (Some y) (Some y))) [
      | Less ↦ λ is. (
        ap (λ b. b || contains_name ns n) (name_eq-refl n),
        λ m there. elim (or_cases (name_eq m n) (contains_name ns m) there) [
          | inl here ↦ ap (λ k. less k n) (same_name m n here) ∙ not_itself n
          | inr later ↦ order.chain m y n (least.1 m later) (order.one_way n y (ap is_lt is))
        ],
      )
      | Equal ↦ λ is. kept (ap is_lt is)
      | Greater ↦ λ is. kept (ap is_lt is)
    ] refl
  where
    kept : less n y ≡ false → IsLeast (n ∷ ns) (Some y)
    kept apart = (
      or_right (name_eq y n) (contains_name ns y) least.0,
      λ m there. elim (or_cases (name_eq m n) (contains_name ns m) there) [
        | inl here ↦ ap (λ k. less k y) (same_name m n here) ∙ apart
        | inr later ↦ least.1 m later
      ],
    )

pub least-is : (ns : List Name) → IsLeast ns (least_name ns)
least-is [] = λ m. refl
least-is (n ∷ ns) = subst (IsLeast (n ∷ ns)) (sym (first-put n (placed_by_name ns)))
    (least-earlier n ns (least_name ns) (least-is ns))

tied : (a b : Name) → less a b ≡ false → less b a ≡ false → a ≡ b
tied a b p q = slice_cmp-IsAntisymmetric nat_cmp-IsAntisymmetric a b
    (by (name_cmp a b) (name_cmp b a) (nat_list_cmp_total.antisymm a b) p q)
  where
    by : (o r : Ordering) → o ≡ ordering_reverse r → is_lt o ≡ false → is_lt r ≡ false → o ≡ Equal
    by Less r e f g = absurd (true≢false f)
    by Equal r e f g = refl
    by Greater Less e f g = absurd (true≢false g)
    by Greater Equal e f g = e
    by Greater Greater e f g = cc

pub least-only : (ns : List Name) (a b : Option Name) → IsLeast ns a → IsLeast ns b → a ≡ b
least-only ns None None p q = refl
least-only ns None (Some b) p q = absurd (not_both (contains_name ns b) q.0 (p b))
least-only ns (Some a) None p q = absurd (not_both (contains_name ns a) p.0 (q a))
least-only ns (Some a) (Some b) p q = ap Some (tied a b (q.1 a p.0) (p.1 b q.0))

pub least-end : (ns : List Name) (o : Option Name) → IsLeast ns o → o ≡ least_name ns
least-end ns o least = least-only ns o (least_name ns) least (least-is ns)

or_none : (a b : Bool) → a ≡ false → b ≡ false → (a || b) ≡ false
or_none a b p q = λ i. (p i) || (q i)

-- the least of two lists together
pub least-both : (xs ys zs : List Name) (a b : Option Name)
    → ((m : Name) → contains_name zs m ≡ (contains_name xs m || contains_name ys m)) → IsLeast xs a
    → IsLeast ys b → IsLeast zs (lesser a b)
least-both xs ys zs None None all p q = λ m. all m ∙ or_none _ _ (p m) (q m)
least-both xs ys zs None (Some b) all p q = (
  all b ∙ or_right (contains_name xs b) _ q.0,
  λ m there. elim (or_cases (contains_name xs m) (contains_name ys m) (sym (all m) ∙ there)) [
    | inl first ↦ absurd (not_both (contains_name xs m) first (p m))
    | inr second ↦ q.1 m second
  ],
)
least-both xs ys zs (Some a) None all p q = (
  all a ∙ ap (λ t. t || contains_name ys a) p.0,
  λ m there. elim (or_cases (contains_name xs m) (contains_name ys m) (sym (all m) ∙ there)) [
    | inl first ↦ p.1 m first
    | inr second ↦ absurd (not_both (contains_name ys m) second (q m))
  ],
)
least-both xs ys zs (Some a) (Some b) all p q =
    elim (less b a) as (λ t. less b a ≡ t → IsLeast zs (cond t (Some b) (Some a))) [
      | true ↦ λ is. (
        all b ∙ or_right (contains_name xs b) _ q.0,
        λ m there. elim (or_cases (contains_name xs m) (contains_name ys m) (sym (all m) ∙ there)) [
          | inl first ↦ order.chain m a b (p.1 m first) (order.one_way b a is)
          | inr second ↦ q.1 m second
        ],
      )
      | false ↦ λ apart. (
        all a ∙ ap (λ t. t || contains_name ys a) p.0,
        λ m there. elim (or_cases (contains_name xs m) (contains_name ys m) (sym (all m) ∙ there)) [
          | inl first ↦ p.1 m first
          | inr second ↦ order.chain m b a (q.1 m second) apart
        ],
      )
    ] refl

pub least-one : (n : Name) → IsLeast (n ∷ []) (Some n)
least-one n = least-earlier n [] None (λ m. refl)

pub least-push : (ns : List Name) (n : Name) (o : Option Name) → IsLeast ns o
    → IsLeast (ns ++ n ∷ []) (lesser o (Some n))
least-push ns n o least = least-both ns (n ∷ []) (ns ++ n ∷ []) o (Some n)
    (λ m. list_any-append (name_eq m) ns (n ∷ [])) least (least-one n)
