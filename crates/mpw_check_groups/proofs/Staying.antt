-- What a library shows without the shapes on other layers is what it showed, without these shapes.
use Rattle.std.proofs.Common.{◌≡◌, ◌∙◌, ℕ, zero, suc, ◌+◌, pos, Bool, true, false, cond, List, [], ◌∷◌, ◌++◌, length, map, Option, Some, None, option_map, refl, sym, ap, subst, arith, Result, Ok, Err}
use mathlib.Core.Path.{fun_ext}
use Rattle.std.specs.Prelude.{filter, slice_get, slice_index_or, nat_eq, IfOk, IfSome}
use Rattle.std.specs.List.{flat_map}
use Rattle.std.specs.Cmp.Lexicographic.{pointwise}
use Rattle.std.proofs.lemmas.List.{length-map}
use Rattle.std.proofs.lemmas.List.Elements.{All-filter, All-map, All-weaker, filter-append}
use Rattle.std.proofs.lemmas.Option.{slice_get-map}
use Rattle.mpw_geom.specs.declared.plane.Layer.{Layer}
use Rattle.mpw_geom.specs.declared.placing.Placing.{Placing}
use Rattle.mpw_structures.specs.Element.{IsElement}
use Rattle.mpw_structures.specs.Library.{IsLibrary, IsStructure}
use Rattle.mpw_structures.specs.declared.element.Element.{Element}
use Rattle.mpw_structures.specs.declared.element.Element.TheVariants as elements
use Rattle.mpw_structures.specs.declared.element.Reference.{Reference}
use Rattle.mpw_structures.specs.declared.structures.Structure.{Structure}
use Rattle.mpw_structures.specs.Places.{place_from, place_of}
use Rattle.mpw_hier.specs.declared.submission.Submission.{Submission}
use Rattle.mpw_geom.specs.declared.plane.Orient.TheVariants.{R0}
use Rattle.mpw_hier.specs.Structures.{is_shape, references, shapes, structure_at, structure_of}
use Rattle.mpw_hier.specs.Items.{Item, instances, own_items, placed_item, placed_items, shown_items}
use Rattle.mpw_hier.specs.Levels.{at_structure, by_levels, levels_of}
use Rattle.mpw_hier.specs.Values.{at_number, bound_number, flat, flat_of, flats, from_first}
use Rattle.mpw_hier.specs.Limits.{numbered, IsShelf}
use Rattle.mpw_hier.specs.Shelf.{bound_to}
use Rattle.mpw_hier.specs.declared.bindings.Binding.{Binding}
use Rattle.mpw_deck.specs.declared.rule.Rule.{Rule}
use Rattle.mpw_walk.specs.declared.root.Root.{Root}
use Rattle.mpw_walk.specs.Turns.{flat_root, flat_roots}
use Rattle.mpw_tiles.specs.Snapshots.{Snapshot, shown}
use Rattle.mpw_check_groups.specs.Layers.{is_among, is_named, items_on, library_on, stays, structure_on}
use Rattle.mpw_check_groups.specs.Parts.{AreRulesAt, IsPartOf, IsShelfOn}
use Rattle.mpw_check_groups.specs.Internal.{submission_with}

-- ---- lists

filter-map : {X Y : Type 0} (p : Y → Bool) (f : X → Y) (xs : List X)
    → filter p (map f xs) ≡ map f (filter (λ x. p (f x)) xs)
filter-map p f [] = refl
filter-map p f (x ∷ xs) =
    ap (λ ys. cond (p (f x)) (f x ∷ ys) ys) (filter-map p f xs) ∙ chosen (p (f x))
  where
    chosen : (b : Bool)
        → cond b (f x ∷ map f (filter (λ x. p (f x)) xs)) (map f (filter (λ x. p (f x)) xs))
        ≡ map f (cond b (x ∷ filter (λ x. p (f x)) xs) (filter (λ x. p (f x)) xs))
    chosen true = refl
    chosen false = refl

filter_twice : {X : Type 0} (p q : X → Bool) (xs : List X)
    → filter p (filter q xs) ≡ filter q (filter p xs)
filter_twice p q [] = refl
filter_twice p q (x ∷ xs) = chosen (p x) (q x) refl refl (filter_twice p q xs)
  where
    chosen : (a b : Bool) → p x ≡ a → q x ≡ b
        → filter p (filter q xs) ≡ filter q (filter p xs)
        → filter p (cond b (x ∷ filter q xs) (filter q xs))
        ≡ filter q (cond a (x ∷ filter p xs) (filter p xs))
    chosen true true e f same =
        ap (λ c. cond c (x ∷ filter p (filter q xs)) (filter p (filter q xs))) e
        ∙ ap (λ ys. x ∷ ys) same
        ∙ sym (ap (λ c. cond c (x ∷ filter q (filter p xs)) (filter q (filter p xs))) f)
    chosen true false e f same =
        same ∙ sym (ap (λ c. cond c (x ∷ filter q (filter p xs)) (filter q (filter p xs))) f)
    chosen false true e f same =
        ap (λ c. cond c (x ∷ filter p (filter q xs)) (filter p (filter q xs))) e ∙ same
    chosen false false e f same = same

-- ---- structures

module _ (test : Layer → Bool) where
  abbrev item_stays : Item → Bool
  item_stays i = stays test i.element

  skips_shape : (e : Element) (es rest : List Element) (c : Bool) → references (e ∷ rest)
      ≡ references rest → references rest ≡ references es
      → references (cond c (e ∷ rest) rest) ≡ references es
  skips_shape e es rest true none same = none ∙ same
  skips_shape e es rest false none same = same

  references_stay : (es : List Element) → references (filter (stays test) es) ≡ references es
  references_stay [] = refl
  references_stay (elements.Boundary b ∷ es) =
      skips_shape (elements.Boundary b) es (filter (stays test) es) (test b.layer) refl
      (references_stay es)
  references_stay (elements.Path p ∷ es) =
      skips_shape (elements.Path p) es (filter (stays test) es) (test p.layer) refl
      (references_stay es)
  references_stay (elements.Reference r ∷ es) = ap (λ rs. r ∷ rs) (references_stay es)

  abbrev own_item : ℕ → Element → Item
  own_item number e = record {
    origin = number;
    placing = record { orient = R0; by = record { x = pos 0; y = pos 0 } };
    element = e;
  }

  own_stay : (number : ℕ) (es : List Element)
      → own_items number (filter (stays test) es) ≡ items_on test (own_items number es)
  own_stay number es =
      ap (map (own_item number)) (filter_twice is_shape (stays test) es)
      ∙ sym (filter-map item_stays (own_item number) (shapes es))

  placed_stay : (t : Placing) (items : List Item)
      → map (placed_item t) (items_on test items) ≡ items_on test (map (placed_item t) items)
  placed_stay t items = sym (filter-map item_stays (placed_item t) items)

  each_stays : (ts : List Placing) (items : List Item)
      → flat_map (λ t. map (placed_item t) (items_on test items)) ts
      ≡ items_on test (flat_map (λ t. map (placed_item t) items) ts)
  each_stays [] items = refl
  each_stays (t ∷ ts) items =
      ap (λ xs. xs ++ flat_map (λ u. map (placed_item u) (items_on test items)) ts)
      (placed_stay t items)
      ∙ ap (λ xs. items_on test (map (placed_item t) items) ++ xs) (each_stays ts items)
      ∙ sym (filter-append item_stays (map (placed_item t) items)
      (flat_map (λ t. map (placed_item t) items) ts))

  instances_stay : (r : Reference) (items : List Item)
      → placed_items r (items_on test items) ≡ items_on test (placed_items r items)
  instances_stay r items = each_stays (instances r) items

  below_stay : (rs : List Reference) (f g : List ℕ → List Item)
      → ((name : List ℕ) → g name ≡ items_on test (f name))
      → flat_map (λ (r : Reference). placed_items r (g r.name)) rs
      ≡ items_on test (flat_map (λ (r : Reference). placed_items r (f r.name)) rs)
  below_stay [] f g same = refl
  below_stay (r ∷ rs) f g same =
      ap (λ xs. placed_items r xs
      ++ flat_map (λ (q : Reference). placed_items q (g q.name)) rs) (same r.name)
      ∙ ap (λ xs. xs ++ flat_map (λ (q : Reference). placed_items q (g q.name)) rs)
      (instances_stay r (f r.name))
      ∙ ap (λ xs. items_on test (placed_items r (f r.name)) ++ xs) (below_stay rs f g same)
      ∙ sym (filter-append item_stays (placed_items r (f r.name))
      (flat_map (λ (r : Reference). placed_items r (f r.name)) rs))

  shown_stay : (number : ℕ) (s : Structure) (f g : List ℕ → List Item)
      → ((name : List ℕ) → g name ≡ items_on test (f name))
      → shown_items number (structure_on test s) g ≡ items_on test (shown_items number s f)
  shown_stay number s f g same =
      ap (λ rs. own_items number (filter (stays test) s.elements)
      ++ flat_map (λ (r : Reference). placed_items r (g r.name)) rs) (references_stay s.elements)
      ∙ ap (λ xs. xs ++ flat_map (λ (r : Reference). placed_items r (g r.name))
      (references s.elements)) (own_stay number s.elements)
      ∙ ap (λ xs. items_on test (own_items number s.elements) ++ xs)
      (below_stay (references s.elements) f g same)
      ∙ sym (filter-append item_stays (own_items number s.elements)
      (flat_map (λ (r : Reference). placed_items r (f r.name)) (references s.elements)))

  -- ---- libraries

  place_stays : (i : ℕ) (ss : List Structure) (name : List ℕ)
      → place_from i (library_on test ss) name ≡ place_from i ss name
  place_stays i [] name = refl
  place_stays i (s ∷ ss) name =
      ap (λ (o : Option ℕ). cond (pointwise nat_eq s.name name) (Some i) o)
      (place_stays (i + 1) ss name)

  structure_stays : (ss : List Structure) (name : List ℕ)
      → structure_of (library_on test ss) name
      ≡ option_map (structure_on test) (structure_of ss name)
  structure_stays ss name =
      ap (structure_at (library_on test ss)) (place_stays 0 ss name)
      ∙ at (place_of ss name)
    where
      at : (o : Option ℕ) → structure_at (library_on test ss) o
          ≡ option_map (structure_on test) (structure_at ss o)
      at None = refl
      at (Some place) = slice_get-map (structure_on test) ss place

  module _ (number : ℕ) (library : List Structure) (outside : List ℕ → List Item)
      (none : (name : List ℕ) → outside name ≡ []) where
    abbrev level : ℕ → List Structure → List ℕ → List Item
    level n ss name = by_levels (shown_items number) [] outside n ss name

    one_level : (n : ℕ) (name : List ℕ) (o : Option Structure)
        → ((target : List ℕ) → level n (library_on test library) target
        ≡ items_on test (level n library target))
        → at_structure (λ s. shown_items number s (level n (library_on test library)))
        (outside name) (option_map (structure_on test) o)
        ≡ items_on test (at_structure (λ s. shown_items number s (level n library))
        (outside name) o)
    one_level n name None below = none name ∙ ap (items_on test) (sym (none name))
    one_level n name (Some s) below =
        shown_stay number s (level n library) (level n (library_on test library)) below

    levels_stay : (n : ℕ) (name : List ℕ)
        → by_levels (shown_items number) [] outside n (library_on test library) name
        ≡ items_on test (by_levels (shown_items number) [] outside n library name)
    unfolding by_levels
    levels_stay zero name = refl
    levels_stay (suc n) name =
        ap (at_structure (λ s. shown_items number s (level n (library_on test library)))
        (outside name)) (structure_stays library name)
        ∙ one_level n name (structure_of library name) (levels_stay n)

-- ---- shelves

-- A first submission has no others before it, so nothing is shown by names outside its library.
none_outside : (s : Submission) (name : List ℕ)
    → at_number {V = List Item} [] [] (bound_number s.bound name) ≡ []
none_outside s name = at (bound_number s.bound name)
  where
    at : (o : Option ℕ) → at_number {V = List Item} [] [] o ≡ []
    at None = refl
    at (Some n) = refl

pub top_stays : (test : Layer → Bool) (s : Submission)
    → flat_of [] (submission_with s (library_on test s.library)) ≡ items_on test (flat_of [] s)
top_stays test s =
    ap (λ (n : ℕ). by_levels (shown_items 0) [] (λ outside. []) (suc n)
    (library_on test s.library) s.top) (length-map s.library (structure_on test))
    ∙ levels_stay test 0 s.library (λ outside. []) (λ name. refl) (levels_of s.library) s.top
    ∙ ap (λ (outside : List ℕ → List Item). items_on test (by_levels (shown_items 0) [] outside
    (levels_of s.library) s.library s.top)) (sym (fun_ext (none_outside s)))

flats_of_one : (s : Submission) → flats (s ∷ []) ≡ flat_of [] s ∷ []
unfolding flats from_first
flats_of_one s = refl

pub shelf_stays : (test : Layer → Bool) (s t : Submission)
    → flat_of [] t ≡ items_on test (flat_of [] s) → (number : ℕ)
    → flat (t ∷ []) number ≡ items_on test (flat (s ∷ []) number)
shelf_stays test s t same number =
    ap (λ (lists : List (List Item)). slice_index_or lists number []) (flats_of_one t)
    ∙ at number
    ∙ ap (λ (lists : List (List Item)). items_on test (slice_index_or lists number []))
    (sym (flats_of_one s))
  where
    at : (n : ℕ) → slice_index_or (flat_of [] t ∷ []) n []
        ≡ items_on test (slice_index_or (flat_of [] s ∷ []) n [])
    at zero = same
    at (suc n) = refl

-- ---- what is put on the shelf

pub library_read : (test : Layer → Bool) (library : List Structure) → IsLibrary library
    → IsLibrary (library_on test library)
library_read test library read =
    All-map IsStructure (structure_on test) library
    (All-weaker IsStructure (λ (s : Structure). IsStructure (structure_on test s))
    (λ s h. record {
      name = h.name;
      elements = All-filter (stays test) IsElement s.elements h.elements;
    }) library read)

pub read_on : (test : Layer → Bool) (ss : List Submission) (s : Submission) → IsShelf ss
    → slice_get ss 0 ≡ Some s → IsLibrary (library_on test s.library)
read_on test ss s shelf at = library_read test s.library (shelf 0 s at).read

only : (ss : List Submission) (s : Submission) → length ss ≡ 1 → slice_get ss 0 ≡ Some s
    → ss ≡ s ∷ []
only [] s long at = absurd (omega (arith, long))
only (x ∷ []) s long at = ap (λ (y : Submission). y ∷ []) (same x s at)
  where
    same : (a b : Submission) → (let o : Option Submission = Some a in o) ≡ Some b → a ≡ b
    same a b e = cc
only (x ∷ y ∷ ss) s long at = absurd (omega (arith, long))

pub is_shelf_on : (test : Layer → Bool) (ss part : List Submission) (s : Submission)
    → length ss ≡ 1 → slice_get ss 0 ≡ Some s
    → part ≡ numbered [] (submission_with s (library_on test s.library)) ∷ []
    → IsShelfOn test ss part
is_shelf_on test ss part s long at is = record {
  alone = ap length is;
  shown = λ number.
      ap (λ (xs : List Submission). flat xs number) is
      ∙ shelf_stays test s (numbered [] (submission_with s (library_on test s.library)))
      (top_stays test s) number
      ∙ ap (λ (xs : List Submission). items_on test (flat xs number)) (sym (only ss s long at));
}

roots_stay : (test : Layer → Bool) (ss part : List Submission) → IsShelfOn test ss part
    → (roots : List Root) → flat_roots part roots ≡ items_on test (flat_roots ss roots)
unfolding flat_roots
roots_stay test ss part on [] = refl
roots_stay test ss part on (root ∷ roots) =
    ap (λ xs. map (placed_item root.placing) xs ++ flat_map (flat_root part) roots)
    (on.shown root.submission)
    ∙ ap (λ xs. xs ++ flat_map (flat_root part) roots)
    (placed_stay test root.placing (flat ss root.submission))
    ∙ ap (λ xs. items_on test (map (placed_item root.placing) (flat ss root.submission)) ++ xs)
    (roots_stay test ss part on roots)
    ∙ sym (filter-append (item_stays test)
    (map (placed_item root.placing) (flat ss root.submission))
    (flat_map (flat_root ss) roots))

pub is_part_of : (s : Snapshot) (places : List ℕ) (rules : List Rule) (layers : List Layer)
    (shelf : List Submission) (part : Snapshot) → AreRulesAt s.deck.rules places rules
    → ((layer : Layer) → is_among layers layer ≡ is_named rules layer)
    → IsShelfOn (is_among layers) s.shelf shelf
    → part ≡ record {
      deck = record { tile = s.deck.tile; rules = rules };
      roots = s.roots;
      shelf = shelf;
    } → IsPartOf s places part
is_part_of s places rules layers shelf part are same on is = subst (IsPartOf s places) (sym is)
    (record {
      tile = refl;
      rules = are;
      alone = on.alone;
      shown = roots_stay (is_among layers) s.shelf shelf on s.roots
          ∙ ap (λ (test : Layer → Bool). items_on test (shown s)) (fun_ext same);
    })

-- ---- calls

pub none_bound : (ss : List Submission) (names : List (List ℕ)) (bound : List Binding) → names ≡ []
    → bound ≡ [] → bound_to ss names ≡ Some bound
unfolding bound_to
none_bound ss names bound no_names no_bound = rw (no_names, no_bound) refl

pub shelf_made : {E : Type 0} (test : Layer → Bool) (ss : List Submission) (s t : Submission)
    (r : Result (Option (List Submission)) E) → length ss ≡ 1 → slice_get ss 0 ≡ Some s
    → t ≡ submission_with s (library_on test s.library)
    → IfOk r (λ o. IfSome o (λ part. part ≡ numbered [] t ∷ []))
    → IfOk r (λ o. IfSome o (IsShelfOn test ss))
shelf_made test ss s t (Ok None) long at is h = tt
shelf_made test ss s t (Ok (Some part)) long at is h =
    is_shelf_on test ss part s long at (h ∙ ap (λ (x : Submission). numbered [] x ∷ []) is)
shelf_made test ss s t (Err e) long at is h = tt

pub part_made : {E : Type 0} (s : Snapshot) (places given : List ℕ) (all rules named_in : List Rule)
    (layers own : List Layer) (ss shelf : List Submission) (r : Result (Option Snapshot) E)
    → all ≡ s.deck.rules → given ≡ places → named_in ≡ rules → own ≡ layers → ss ≡ s.shelf
    → AreRulesAt all given rules
    → ((layer : Layer) → is_among layers layer ≡ is_named named_in layer)
    → IsShelfOn (is_among own) ss shelf
    → IfOk r (λ o. IfSome o (λ part. part ≡ record {
      deck = record { tile = s.deck.tile; rules = rules };
      roots = s.roots;
      shelf = shelf;
    }))
    → IfOk r (λ o. IfSome o (IsPartOf s places))
part_made s places given all rules named_in layers own ss shelf (Ok None) a b c d e are same on h =
    tt
part_made s places given all rules named_in layers own ss shelf (Err x) a b c d e are same on h =
    tt
part_made s places given all rules named_in layers own ss shelf (Ok (Some part)) a b c d e are
    same on h =
    is_part_of s places rules layers shelf part
    (subst (λ (rs : List Rule). AreRulesAt rs places rules) a
    (subst (λ (ps : List ℕ). AreRulesAt all ps rules) b are))
    (λ layer. same layer ∙ ap (λ (rs : List Rule). is_named rs layer) c)
    (subst (λ (ls : List Layer). IsShelfOn (is_among ls) s.shelf shelf) d
    (subst (λ (xs : List Submission). IsShelfOn (is_among own) xs shelf) e on))
    h
