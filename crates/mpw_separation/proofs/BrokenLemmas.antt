-- The first broken set in alphabetical order, holder by holder.
use Rattle.std.proofs.Common.{◌≡◌, ℕ, ◌+◌, ◌<◌, length, take, get_or, Bool, true, false, cond, ◌||◌, ◌&&◌, List, [], ◌∷◌, ◌++◌, filter, Option, Some, refl, sym, ap, ◌∙◌}
use Rattle.std.specs.List.{list_any}
use Rattle.std.proofs.lemmas.List.{take_more}
use Rattle.mpw_geom.specs.Names.{name_eq, contains_name}
use Rattle.mpw_roles.specs.Hierarchy.{Name, Hierarchy}
use Rattle.mpw_separation.specs.Set.{SeparationSet}
use Rattle.mpw_geom.specs.Least.{least_name, lesser, IsLeast}
use Rattle.mpw_separation.specs.Separation.{breaks, is_broken, set_names, broken_names, least_broken}
use Rattle.mpw_geom.proofs.LeastLemmas.{least-is, least-only, least-both, least-push}
use Rattle.mpw_roles.proofs.BoolLemmas.{or_false, or_assoc}

-- the sets so far, and one more
pub least-set : (p : SeparationSet → Bool) (sets : List SeparationSet) (set : SeparationSet)
    (o : Option Name) → IsLeast (set_names (filter p sets)) o
    → IsLeast (set_names (filter p (sets ++ set ∷ []))) (cond (p set) (lesser o (Some set.name)) o)
least-set p sets set o least =
    elim (p set) as (λ t. p set ≡ t → IsLeast (set_names (filter p (sets ++ set ∷ [])))
    (cond t (lesser o (Some set.name)) o)) [
      | true ↦ λ is. rw (with-set sets is) (least-push (set_names (filter p sets)) set.name o least)
      | false ↦ λ is. rw (without-set sets is) least
    ] refl
  where
    with-set : (xs : List SeparationSet) → p set ≡ true
        → set_names (filter p (xs ++ set ∷ [])) ≡ set_names (filter p xs) ++ set.name ∷ []
    with-set [] is = ap (λ b. set_names (cond b (set ∷ []) [])) is
    with-set (x ∷ xs) is = elim (p x) as
        (λ b. set_names (cond b (x ∷ filter p (xs ++ set ∷ [])) (filter p (xs ++ set ∷ [])))
        ≡ set_names (cond b (x ∷ filter p xs) (filter p xs)) ++ set.name ∷ []) [
          | true ↦ ap (λ l. x.name ∷ l) (with-set xs is)
          | false ↦ with-set xs is
        ]

    without-set : (xs : List SeparationSet) → p set ≡ false
        → set_names (filter p (xs ++ set ∷ [])) ≡ set_names (filter p xs)
    without-set [] is = ap (λ b. set_names (cond b (set ∷ []) [])) is
    without-set (x ∷ xs) is = elim (p x) as
        (λ b. set_names (cond b (x ∷ filter p (xs ++ set ∷ [])) (filter p (xs ++ set ∷ [])))
        ≡ set_names (cond b (x ∷ filter p xs) (filter p xs))) [
          | true ↦ ap (λ l. x.name ∷ l) (without-set xs is)
          | false ↦ without-set xs is
        ]

pub least-turn : (p : SeparationSet → Bool) (sets : List SeparationSet) (i : ℕ)
    (set : SeparationSet) (o : Option Name) → i < length sets → set ≡ get_or sets i set
    → IsLeast (set_names (filter p (take i sets))) o
    → IsLeast (set_names (filter p (take (i + 1) sets))) (cond (p set) (lesser o (Some set.name)) o)
least-turn p sets i set o inside is least =
    let more : take (i + 1) sets ≡ take i sets ++ set ∷ [] = take_more sets i set inside
    ∙ ap (λ s. take i sets ++ s ∷ []) (sym is) in
    rw more (least-set p (take i sets) set o least)

pub least-end : (ns : List Name) (o : Option Name) → IsLeast ns o → o ≡ least_name ns
least-end ns o least = least-only ns o (least_name ns) least (least-is ns)

-- a name is among them if a set has that name and passes
pub contains-names : (p : SeparationSet → Bool) (sets : List SeparationSet) (m : Name)
    → contains_name (set_names (filter p sets)) m ≡ list_any (λ (set : SeparationSet). p set
    && name_eq m set.name) sets
contains-names p [] m = refl
contains-names p (x ∷ xs) m = elim (p x) as
    (λ b. contains_name (set_names (cond b (x ∷ filter p xs) (filter p xs))) m
    ≡ ((b && name_eq m x.name) || list_any (λ (set : SeparationSet). p set && name_eq m set.name)
    xs)) [
      | true ↦ ap (λ b. name_eq m x.name || b) (contains-names p xs m)
      | false ↦ contains-names p xs m
    ]

arrange : (p q r a b c : Bool) → c ≡ (a || b)
    → (((p || q) && r) || c) ≡ (((p && r) || a) || ((q && r) || b))
arrange true q true a b c e = refl
arrange true true false a b c e = e
arrange true false false a b c e = e
arrange false true true true b c e = refl
arrange false true true false b c e = refl
arrange false true false a b c e = e
arrange false false r a b c e = e

any-either : (p q r : SeparationSet → Bool) (sets : List SeparationSet)
    → list_any (λ s. (p s || q s) && r s) sets
    ≡ (list_any (λ s. p s && r s) sets || list_any (λ s. q s && r s) sets)
any-either p q r [] = refl
any-either p q r (x ∷ xs) = arrange (p x) (q x) (r x) (list_any (λ s. p s && r s) xs)
    (list_any (λ s. q s && r s) xs) (list_any (λ s. (p s || q s) && r s) xs) (any-either p q r xs)

any-same : {X : Type 0} (p q : X → Bool) → ((x : X) → p x ≡ q x) → (xs : List X)
    → list_any p xs ≡ list_any q xs
any-same p q same [] = refl
any-same p q same (x ∷ xs) = λ i. same x i || any-same p q same xs i

broken-push : (h : Hierarchy) (holders : List (List Name)) (s : List Name) (set : SeparationSet)
    → is_broken h (holders ++ s ∷ []) set ≡ (is_broken h holders set || is_broken h (s ∷ []) set)
broken-push h [] s set = refl
broken-push h (x ∷ xs) s set = ap (λ b. breaks h x set || b) (broken-push h xs s set)
    ∙ or_assoc (breaks h x set) (is_broken h xs set) (is_broken h (s ∷ []) set)

pub broken-last : (h : Hierarchy) (holders : List (List Name)) (s : List Name)
    (set : SeparationSet)
    → is_broken h (holders ++ s ∷ []) set ≡ (is_broken h holders set || breaks h s set)
broken-last h holders s set = broken-push h holders s set
    ∙ ap (λ b. is_broken h holders set || b) (or_false (breaks h s set))

-- the holders so far, and one more
pub least-holder : (h : Hierarchy) (sets : List SeparationSet) (holders : List (List Name))
    (s : List Name) (o : Option Name) → IsLeast (broken_names h sets holders) o
    → IsLeast (broken_names h sets (holders ++ s ∷ [])) (lesser o (least_broken h sets (s ∷ [])))
least-holder h sets holders s o least =
    least-both (broken_names h sets holders) (broken_names h sets (s ∷ []))
    (broken_names h sets (holders ++ s ∷ [])) o (least_broken h sets (s ∷ []))
    (λ m.
    contains-names (is_broken h (holders ++ s ∷ [])) sets m
    ∙ any-same (λ set. is_broken h (holders ++ s ∷ []) set && name_eq m set.name)
    (λ set. (is_broken h holders set || is_broken h (s ∷ []) set) && name_eq m set.name)
    (λ set. ap (λ b. b && name_eq m set.name) (broken-push h holders s set)) sets
    ∙ any-either (is_broken h holders) (is_broken h (s ∷ [])) (λ set. name_eq m set.name) sets
    ∙ (λ i. sym (contains-names (is_broken h holders) sets m) i
    || sym (contains-names (is_broken h (s ∷ [])) sets m) i))
    least (least-is (broken_names h sets (s ∷ [])))

filter-same : {X : Type 0} (p q : X → Bool) → ((x : X) → p x ≡ q x) → (xs : List X)
    → filter p xs ≡ filter q xs
filter-same p q same [] = refl
filter-same p q same (x ∷ xs) =
    λ i. cond (same x i) (x ∷ filter-same p q same xs i) (filter-same p q same xs i)

-- of one holder, the broken sets are those that its roles reach
pub broken-one : (h : Hierarchy) (sets : List SeparationSet) (s : List Name)
    → broken_names h sets (s ∷ []) ≡ set_names (filter (breaks h s) sets)
broken-one h sets s = ap set_names (filter-same (is_broken h (s ∷ [])) (breaks h s)
    (λ set. or_false (breaks h s set)) sets)
