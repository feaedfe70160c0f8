-- What lists give for names in order: a name that gives nothing makes no difference.
use Rattle.std.proofs.Common.{◌≡◌, ◌∙◌, ℕ, Bool, true, false, ◌||◌, List, [], ◌∷◌, ◌++◌, map, refl, sym, ap, true≢false}
use Rattle.std.specs.List.{flat_map}
use Rattle.std.specs.declared.cmp.Ordering.TheVariants.{Less, Equal, Greater}
use Rattle.std.specs.FinMap.Entries.{by_order, put}
use Rattle.std.proofs.lemmas.List.Folds.{list_any-append}
use Rattle.mpw_geom.specs.Names.{name_eq, name_cmp, contains_name, placed_by_name, by_name}
use Rattle.mpw_geom.proofs.Linked.{same_name, name_eq-refl}
use Rattle.mpw_geom.proofs.NamesLemmas.{by_name-same}

abbrev Name : Type 0
Name = List ℕ

abbrev Entry : Type 0
Entry = Name × Unit {0}

put_nothing : {A : Type 0} (f : Name → List A) (name : Name) (placed : List Entry) → f name ≡ []
    → flat_map f (map (λ (e : Entry). e.0) (put name_cmp name tt placed))
    ≡ flat_map f (map (λ (e : Entry). e.0) placed)
put_nothing f name [] none = ap (λ l. l ++ []) none
put_nothing f name (p ∷ placed) none =
    elim (name_cmp name p.0) as (λ o. flat_map f
    (map (λ (e : Entry). e.0) (by_order o ((name, tt) ∷ p ∷ placed) ((p.0, tt) ∷ placed)
    (p ∷ put name_cmp name tt placed))) ≡ f p.0 ++ flat_map f (map (λ (e : Entry). e.0) placed)) [
      | Less ↦ ap (λ l. l ++ (f p.0 ++ flat_map f (map (λ (e : Entry). e.0) placed))) none
      | Equal ↦ refl
      | Greater ↦ ap (λ l. f p.0 ++ l) (put_nothing f name placed none)
    ]

both_false : (a b : Bool) → (a || b) ≡ false → (a ≡ false) × (b ≡ false)
both_false false b e = (refl, e)
both_false true b e = absurd (true≢false e)

or_swap : (a b : Bool) → (a || b) ≡ (b || a)
or_swap true true = refl
or_swap true false = refl
or_swap false true = refl
or_swap false false = refl

pub apart_both : (x y : Name) → name_eq x y ≡ false → name_eq y x ≡ false
apart_both x y apart = go (name_eq y x) refl
  where
    go : (b : Bool) → name_eq y x ≡ b → b ≡ false
    go true is = absurd (true≢false (sym (name_eq-refl x) ∙ sym (ap (name_eq x) (same_name y x is))
        ∙ apart))
    go false is = refl

-- a name that is there already
there_already : (names : List Name) (name : Name) → contains_name names name ≡ true → (q : Name)
    → contains_name (name ∷ names) q ≡ contains_name names q
there_already names name there q = go (name_eq q name) refl
  where
    go : (b : Bool) → name_eq q name ≡ b → (b || contains_name names q) ≡ contains_name names q
    go true is = sym (ap (contains_name names) (same_name q name is) ∙ there)
    go false is = refl

more_names : {A : Type 0} (f : Name → List A) (ys xs : List Name)
    → ((name : Name) → contains_name xs name ≡ false → f name ≡ [])
    → flat_map f (by_name (ys ++ xs)) ≡ flat_map f (by_name xs)
more_names f [] xs none = refl
more_names {A} f (y ∷ ys) xs none = go (contains_name (ys ++ xs) y) refl ∙ more_names f ys xs none
  where
    go : (b : Bool) → contains_name (ys ++ xs) y ≡ b
        → flat_map f (by_name (y ∷ (ys ++ xs))) ≡ flat_map f (by_name (ys ++ xs))
    go true is = ap (flat_map f) (by_name-same (y ∷ (ys ++ xs)) (ys ++ xs)
        (there_already (ys ++ xs) y is))
    go false is =
        let apart = both_false (contains_name ys y) (contains_name xs y)
        (sym (list_any-append (name_eq y) ys xs) ∙ is) in
        put_nothing f y (placed_by_name (ys ++ xs)) (none y apart.1)

swap_contains : (xs ys : List Name) (q : Name)
    → contains_name (xs ++ ys) q ≡ contains_name (ys ++ xs) q
swap_contains xs ys q = list_any-append (name_eq q) xs ys
    ∙ or_swap (contains_name xs q) (contains_name ys q) ∙ sym (list_any-append (name_eq q) ys xs)

-- if two lists give the same for each name, and nothing for names that they don't have, they give the same in
-- order
pub told_alike : {A : Type 0} (f g : Name → List A) (xs ys : List Name)
    → ((name : Name) → f name ≡ g name)
    → ((name : Name) → contains_name xs name ≡ false → f name ≡ [])
    → ((name : Name) → contains_name ys name ≡ false → g name ≡ [])
    → flat_map f (by_name xs) ≡ flat_map g (by_name ys)
told_alike {A} f g xs ys alike none_f none_g =
    sym (more_names f ys xs none_f)
    ∙ ap (flat_map f) (by_name-same (ys ++ xs) (xs ++ ys) (swap_contains ys xs))
    ∙ ap (λ (h : Name → List A). flat_map h (by_name (xs ++ ys))) (λ i name. alike name i)
    ∙ more_names g xs ys none_g
