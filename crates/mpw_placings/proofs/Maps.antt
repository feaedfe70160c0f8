-- What a map of placements finds, adds and removes, in terms of the list of its placements.
use Rattle.std.proofs.Common.{◌≡◌, ℕ, suc, Bool, true, false, cond, not, ◌&&◌, ◌||◌, List, [], ◌∷◌, ◌++◌, get_or, Some, None, is_some, refl, sym, ap, subst, ◌∙◌, append_assoc, append-nil, arith}
use Rattle.std.specs.Prelude.{All, AllPairs, filter, if◌then◌else◌}
use Rattle.std.specs.List.{find}
use Rattle.std.specs.Map.{lookup, remove_entry, values_of}
use Rattle.std.specs.Option.{option_map}
use Rattle.std.specs.Cmp.Lexicographic.{bytes_decides, nat_list_eq_equiv}
use Rattle.std.proofs.lemmas.List.{map-append}
use Rattle.std.proofs.lemmas.List.Elements.{All-nil, All-cons, All-head, All-tail}
use Rattle.std.proofs.lemmas.List.Kept.{AllPairs-cons}
use Rattle.indexmap.specs.IndexMap.{insert_entry, insert_all}
use Rattle.mpw_geom.specs.Names.{name_eq}
use Rattle.mpw_walk.specs.declared.root.Root.{Root}
use Rattle.mpw_placings.specs.declared.name.PlacementName.{PlacementName}
use Rattle.mpw_placings.specs.declared.placement.Placement.{Placement}
use Rattle.mpw_placings.specs.Internal.Maps.{placement_of, placements_of, root_at}
use Rattle.mpw_placings.specs.Internal.Names.{is_named, named_parts}
use Rattle.mpw_placings.specs.Placements.{is_at, is_taken, roots_of, DifferInName}

-- ---- tests

pub neither : (a b : Bool) → (a || b) ≡ false → (a ≡ false) × (b ≡ false)
neither true b e = absurd cc
neither false b e = (refl, e)

not_both : (a b : Bool) → (a ≡ true → b ≡ true → ⊥) → (a && b) ≡ false
not_both false b h = refl
not_both true false h = refl
not_both true true h = absurd (h refl refl)

-- ---- values

-- the roots of a map are those of its placements
pub roots_is : (es : List (PlacementName × Root)) → values_of es ≡ roots_of (placements_of es)
roots_is [] = refl
roots_is (e ∷ es) = ap (λ l. e.1 ∷ l) (roots_is es)

-- ---- look-ups

-- what a look-up by cell and label finds
pub lookup_is : (cell label : List ℕ) (es : List (PlacementName × Root))
    → lookup (is_named cell label) es ≡ root_at (placements_of es) cell label
lookup_is cell label [] = refl
lookup_is cell label (e ∷ es) = by (is_named cell label e.0) (lookup_is cell label es)
  where
    by : (b : Bool) → lookup (is_named cell label) es ≡ root_at (placements_of es) cell label
        → cond b (Some e.1) (lookup (is_named cell label) es)
        ≡ option_map (λ (p : Placement). p.root) (cond b (Some (placement_of e))
        (find (is_at cell label) (placements_of es)))
    by true rest = refl
    by false rest = rest

-- there is a root exactly if there is a placement
pub taken_is : (ps : List Placement) (cell label : List ℕ)
    → is_some (root_at ps cell label) ≡ is_taken ps cell label
taken_is [] cell label = refl
taken_is (p ∷ ps) cell label = by (is_at cell label p) (taken_is ps cell label)
  where
    by : (b : Bool) → is_some (root_at ps cell label) ≡ is_taken ps cell label
        → is_some (option_map (λ (q : Placement). q.root) (cond b (Some p)
        (find (is_at cell label) ps))) ≡ (b || is_taken ps cell label)
    by true rest = refl
    by false rest = rest

-- ---- names apart

apart_first : (p : Placement) (ps : List Placement) → AllPairs DifferInName (p ∷ ps)
    → All (DifferInName p) ps
apart_first p ps apart = λ k d within. apart 0 (suc k) d (omega arith) (omega arith)

apart_rest : (p : Placement) (ps : List Placement) → AllPairs DifferInName (p ∷ ps)
    → AllPairs DifferInName ps
apart_rest p ps apart = λ i j d before within. apart (suc i) (suc j) d (omega arith) (omega arith)

not_at : (p q : Placement) → DifferInName p q → is_at q.cell q.label p ≡ false
not_at p q differ = not_both (name_eq p.cell q.cell) (name_eq p.label q.label)
    (λ c l. differ ((bytes_decides p.cell q.cell).0 c) ((bytes_decides p.label q.label).0 l))

not_at_first : (p q : Placement) → DifferInName p q → is_at p.cell p.label q ≡ false
not_at_first p q differ = not_both (name_eq q.cell p.cell) (name_eq q.label p.label)
    (λ c l. differ (sym ((bytes_decides q.cell p.cell).0 c)) (sym ((bytes_decides q.label p.label).0 l)))

all_left : (P : Placement → Type 0) (xs ys : List Placement) → All P (xs ++ ys) → All P xs
all_left P [] ys all = All-nil P
all_left P (x ∷ xs) ys all = All-cons P x xs (All-head P x (xs ++ ys) all)
    (all_left P xs ys (All-tail P x (xs ++ ys) all))

all_right : (P : Placement → Type 0) (xs ys : List Placement) → All P (xs ++ ys) → All P ys
all_right P [] ys all = all
all_right P (x ∷ xs) ys all = all_right P xs ys (All-tail P x (xs ++ ys) all)

pub apart_left : (xs ys : List Placement) → AllPairs DifferInName (xs ++ ys)
    → AllPairs DifferInName xs
apart_left [] ys apart = λ i j d before within. absurd (omega arith)
apart_left (x ∷ xs) ys apart = AllPairs-cons DifferInName x xs
    (all_left (DifferInName x) xs ys (apart_first x (xs ++ ys) apart))
    (apart_left xs ys (apart_rest x (xs ++ ys) apart))

pub apart_right : (xs ys : List Placement) → AllPairs DifferInName (xs ++ ys)
    → AllPairs DifferInName ys
apart_right [] ys apart = apart
apart_right (x ∷ xs) ys apart = apart_right xs ys (apart_rest x (xs ++ ys) apart)

-- a placement after others has another name than each
new_behind : (ps : List Placement) (q : Placement) (rest : List Placement)
    → AllPairs DifferInName (ps ++ q ∷ rest) → is_taken ps q.cell q.label ≡ false
new_behind [] q rest apart = refl
new_behind (p ∷ ps) q rest apart =
    let differ = All-head (DifferInName p) q rest (all_right (DifferInName p) ps (q ∷ rest)
    (apart_first p (ps ++ q ∷ rest) apart)) in
    (λ i. not_at p q differ i || new_behind ps q rest (apart_rest p (ps ++ q ∷ rest) apart) i)

-- ---- one more

-- whether two names are of the same cell and label
abbrev same_name : PlacementName → PlacementName → Bool
same_name a b = name_eq a.cell b.cell && name_eq a.label b.label

-- a new name is added at the end
inserted : (es : List (PlacementName × Root)) (name : PlacementName) (root : Root)
    → is_taken (placements_of es) name.cell name.label ≡ false
    → insert_entry same_name es name root ≡ es ++ (name, root) ∷ []
inserted [] name root new = refl
inserted (e ∷ es) name root new =
    let apart = neither (is_at name.cell name.label (placement_of e))
    (is_taken (placements_of es) name.cell name.label) new in
    let other : same_name name e.0 ≡ false =
    (λ i. nat_list_eq_equiv.symm name.cell e.0.cell i
    && nat_list_eq_equiv.symm name.label e.0.label i) ∙ apart.0 in
    ap (λ b. if b then (e.0, root) ∷ es else e ∷ insert_entry same_name es name root) other
    ∙ ap (λ l. e ∷ l) (inserted es name root apart.1)

pub placing_inserted : (es : List (PlacementName × Root)) (name : PlacementName) (root : Root)
    → is_taken (placements_of es) name.cell name.label ≡ false
    → placements_of (insert_entry same_name es name root)
    ≡ placements_of es ++ placement_of (name, root) ∷ []
placing_inserted es name root new = ap placements_of (inserted es name root new)
    ∙ map-append placement_of es ((name, root) ∷ [])

-- and so do all new names, in order
all_inserted : (es fs : List (PlacementName × Root))
    → AllPairs DifferInName (placements_of es ++ placements_of fs)
    → insert_all same_name es fs ≡ es ++ fs
all_inserted es [] apart = sym (append-nil es)
all_inserted es (f ∷ fs) apart =
    let ps = placements_of es in
    let rest = placements_of fs in
    let new : is_taken ps f.0.cell f.0.label ≡ false = new_behind ps (placement_of f) rest apart in
    let moved : placements_of (es ++ f ∷ []) ++ rest ≡ ps ++ placement_of f ∷ rest =
    ap (λ l. l ++ rest) (map-append placement_of es (f ∷ []))
    ∙ append_assoc ps (placement_of f ∷ []) rest in
    ap (λ done. insert_all same_name done fs) (inserted es f.0 f.1 new)
    ∙ all_inserted (es ++ f ∷ []) fs (subst (AllPairs DifferInName) (sym moved) apart)
    ∙ append_assoc es (f ∷ []) fs

pub placings_inserted : (es fs : List (PlacementName × Root))
    → AllPairs DifferInName (placements_of es ++ placements_of fs)
    → placements_of (insert_all same_name es fs) ≡ placements_of es ++ placements_of fs
placings_inserted es fs apart = ap placements_of (all_inserted es fs apart)
    ∙ map-append placement_of es fs

-- ---- one fewer

all_kept : (test : Placement → Bool) (ps : List Placement) → All (λ p. test p ≡ false) ps
    → filter (λ p. not (test p)) ps ≡ ps
all_kept test [] none = refl
all_kept test (p ∷ ps) none =
    let kept = filter (λ q. not (test q)) ps in
    ap (λ b. cond (not b) (p ∷ kept) kept) (All-head (λ q. test q ≡ false) p ps none)
    ∙ ap (λ l. p ∷ l) (all_kept test ps (All-tail (λ q. test q ≡ false) p ps none))

-- if there is none of that cell and label, all stay
pub none_removed : (cell label : List ℕ) (ps : List Placement) → None ≡ root_at ps cell label
    → ps ≡ filter (λ p. not (is_at cell label p)) ps
none_removed cell label [] none = refl
none_removed cell label (p ∷ ps) none = by (is_at cell label p) none (none_removed cell label ps)
  where
    others : List Placement
    others = filter (λ q. not (is_at cell label q)) ps

    by : (b : Bool) → None ≡ option_map (λ (q : Placement). q.root)
        (cond b (Some p) (find (is_at cell label) ps)) → (None ≡ root_at ps cell label → ps ≡ others)
        → p ∷ ps ≡ cond (not b) (p ∷ others) others
    by true none rest = absurd cc
    by false none rest = ap (λ l. p ∷ l) (rest none)

-- the first placement of that cell and label is the only one
pub placing_removed : (cell label : List ℕ) (es : List (PlacementName × Root))
    → AllPairs DifferInName (placements_of es)
    → placements_of (remove_entry (is_named cell label) es)
    ≡ filter (λ p. not (is_at cell label p)) (placements_of es)
placing_removed cell label [] apart = refl
placing_removed cell label (e ∷ es) apart = by (is_named cell label e.0) refl
    (placing_removed cell label es (apart_rest (placement_of e) (placements_of es) apart))
  where
    others : List Placement
    others = filter (λ q. not (is_at cell label q)) (placements_of es)

    -- the others have other names
    all_others : is_named cell label e.0 ≡ true → placements_of es ≡ others
    all_others here =
        let names = named_parts cell label e.0 here in
        let none : All (λ q. is_at e.0.cell e.0.label q ≡ false) (placements_of es) =
        λ k d within. not_at_first (placement_of e) (get_or (placements_of es) k d)
        (apart_first (placement_of e) (placements_of es) apart k d within) in
        sym (all_kept (is_at cell label) (placements_of es)
        (subst (λ (c : List ℕ). All (λ q. is_at c label q ≡ false) (placements_of es)) names.0
        (subst (λ (l : List ℕ). All (λ q. is_at e.0.cell l q ≡ false) (placements_of es)) names.1
        none)))

    by : (b : Bool) → is_named cell label e.0 ≡ b
        → placements_of (remove_entry (is_named cell label) es) ≡ others
        → placements_of (cond b es (e ∷ remove_entry (is_named cell label) es))
        ≡ cond (not b) (placement_of e ∷ others) others
    by true here rest = all_others here
    by false here rest = ap (λ l. placement_of e ∷ l) rest
