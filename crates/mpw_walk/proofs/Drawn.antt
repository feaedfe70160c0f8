-- Each shape of a flat list has a box, if all libraries are as reading gives them.
use Rattle.std.proofs.Common.{◌≡◌, ◌≤◌, ℕ, zero, suc, true, List, [], ◌∷◌, ◌++◌, length, get_or, map, Option, Some, None, refl, ap, arith}
use Rattle.std.specs.Prelude.{All}
use Rattle.std.specs.List.{flat_map}
use Rattle.std.proofs.lemmas.List.Elements.{All-nil, All-cons, All-head, All-tail, All-map, All-append, All-push}
use Rattle.mpw_geom.specs.declared.plane.Box2.{Box2}
use Rattle.mpw_geom.specs.declared.plane.Point.{Point}
use Rattle.mpw_structures.specs.declared.element.Element.{Element}
use Rattle.mpw_structures.specs.declared.element.Element.TheVariants as elements
use Rattle.mpw_structures.specs.declared.element.Reference.{Reference}
use Rattle.mpw_structures.specs.Element.{IsElement}
use Rattle.mpw_structures.specs.declared.structures.Structure.{Structure}
use Rattle.mpw_structures.specs.Library.{IsLibrary, IsStructure}
use Rattle.mpw_structures.specs.Places.{place_of}
use Rattle.mpw_geom.specs.Plane.{box_at}
use Rattle.mpw_hier.specs.declared.submission.Submission.{Submission}
use Rattle.mpw_hier.specs.Structures.{references, structure_of, structure_at, is_shape}
use Rattle.mpw_hier.specs.Boxes.{hull, hull_of_points, element_box}
use Rattle.mpw_hier.specs.Items.{Item, own_items, placed_item, placed_items, shown_items, instances}
use Rattle.mpw_hier.specs.Levels.{at_structure, by_levels, levels_of}
use Rattle.mpw_hier.specs.Values.{bound_number, at_number, structure_items, flat_of, flats, from_first}
use Rattle.mpw_walk.proofs.Close.{IsDrawn}
use Rattle.mpw_walk.proofs.Fronts.{at_all}

points_drawn : (ps : List Point) → 1 ≤ length ps → (b : Box2) × (hull_of_points ps ≡ Some b)
unfolding hull_of_points
points_drawn [] h = absurd (omega (arith, h))
points_drawn (p ∷ ps) h = go (hull_of_points ps)
  where
    go : (o : Option Box2) → (b : Box2)
        × (hull (Some (box_at p)) o ≡ Some b)
    go None = (box_at p, refl)
    go (Some b) = (_, refl)

more_drawn : (a : Option Box2) (b : Box2) (o : Option Box2) → a ≡ Some b
    → (c : Box2) × (hull a o ≡ Some c)
more_drawn a b None e = (b, ap (λ x. hull x None) e)
more_drawn a b (Some c) e = (_, ap (λ x. hull x (Some c)) e)

pub element_drawn : (e : Element) → IsElement e → is_shape e ≡ true
    → (b : Box2) × (element_box e ≡ Some b)
unfolding element_box
element_drawn (elements.Boundary b) h shape = points_drawn b.points h.corners
element_drawn (elements.Path p) h shape =
    let d = points_drawn p.points (omega (arith, h.points)) in more_drawn (hull_of_points p.points)
    d.0 _ d.1
element_drawn (elements.Reference r) h shape = absurd cc

own_drawn : (n : ℕ) (es : List Element) → All IsElement es → All IsDrawn (own_items n es)
own_drawn n [] h = All-nil IsDrawn
own_drawn n (e ∷ es) h =
    go e (All-head IsElement e es h) (own_drawn n es (All-tail IsElement e es h))
  where
    go : (x : Element) → IsElement x → All IsDrawn (own_items n es)
        → All IsDrawn (own_items n (x ∷ es))
    go (elements.Boundary b) q rest = All-cons IsDrawn _ _
        (element_drawn (elements.Boundary b) q refl) rest
    go (elements.Path p) q rest = All-cons IsDrawn _ _ (element_drawn (elements.Path p) q refl) rest
    go (elements.Reference r) q rest = rest

pub all_flat : {X Y : Type 0} (P : Y → Type 0) (f : X → List Y) (xs : List X)
    → ((x : X) → All P (f x)) → All P (flat_map f xs)
all_flat P f [] h = All-nil P
all_flat P f (x ∷ xs) h = All-append P (f x) (flat_map f xs) (h x) (all_flat P f xs h)

shown_drawn : (n : ℕ) (s : Structure) (below : List ℕ → List Item) → IsStructure s
    → ((target : List ℕ) → All IsDrawn (below target)) → All IsDrawn (shown_items n s below)
shown_drawn n s below read down =
    All-append IsDrawn (own_items n s.elements) _ (own_drawn n s.elements read.elements)
    (all_flat IsDrawn (λ (r : Reference). placed_items r (below r.name)) (references s.elements)
    (λ r. all_flat IsDrawn (λ t. map (placed_item t) (below r.name)) (instances r)
    (λ t. All-map IsDrawn (placed_item t) (below r.name) (down r.name))))

module _ {V : Type 0} (P : V → Type 0) (shown : Structure → (List ℕ → V) → V) (nothing : V)
    (outside_shown : List ℕ → V) (library : List Structure) (read : IsLibrary library)
    (base : P nothing) (outside : (name : List ℕ) → P (outside_shown name))
    (step : (s : Structure) (below : List ℕ → V) → IsStructure s
    → ((target : List ℕ) → P (below target)) → P (shown s below)) where
  levels_keep : (n : ℕ) (name : List ℕ) → P (by_levels shown nothing outside_shown n library name)
  unfolding by_levels
  levels_keep zero name = base
  levels_keep (suc n) name = go (λ target. levels_keep n target) (structure_of library name) refl
    where
      found : (o : Option ℕ) (s : Structure) → structure_at library o ≡ Some s → IsStructure s
      found None s e = absurd cc
      found (Some k) s e = at_all IsStructure library k s read e

      go : ((target : List ℕ) → P (by_levels shown nothing outside_shown n library target))
          → (o : Option Structure) → structure_of library name ≡ o
          → P (at_structure (λ s. shown s (λ target. by_levels shown nothing outside_shown n library
          target)) (outside_shown name) o)
      go below None e = outside name
      go below (Some s) e = step s _ (found (place_of library name) s e) below

numbers_drawn : (before : List (List Item)) → All (All IsDrawn) before → (o : Option ℕ)
    → All IsDrawn (at_number [] before o)
numbers_drawn before all None = All-nil IsDrawn
numbers_drawn [] all (Some n) = All-nil IsDrawn
numbers_drawn (items ∷ before) all (Some zero) = All-head (All IsDrawn) items before all
numbers_drawn (items ∷ before) all (Some (suc n)) =
    numbers_drawn before (All-tail (All IsDrawn) items before all) (Some n)

pub names_drawn : (before : List (List Item)) (s : Submission) → IsLibrary s.library
    → All (All IsDrawn) before → (name : List ℕ) → All IsDrawn (structure_items before s name)
names_drawn before s read all name =
    levels_keep (All IsDrawn) (shown_items (length before)) [] _ s.library read (All-nil IsDrawn)
    (λ outside. numbers_drawn before all (bound_number s.bound outside))
    (shown_drawn (length before)) (levels_of s.library) name

firsts_drawn : (before : List (List Item)) → All (All IsDrawn) before → (ss : List Submission)
    → All (λ (s : Submission). IsLibrary s.library) ss
    → All (All IsDrawn) (from_first flat_of before ss)
unfolding from_first
firsts_drawn before all [] read = all
firsts_drawn before all (s ∷ ss) read =
    firsts_drawn (before ++ flat_of before s ∷ [])
    (All-push (All IsDrawn) before (flat_of before s) all
    (names_drawn before s (All-head (λ (s : Submission). IsLibrary s.library) s ss read) all
    s.top)) ss (All-tail (λ (s : Submission). IsLibrary s.library) s ss read)

pub all_drawn : (ss : List Submission) → All (λ (s : Submission). IsLibrary s.library) ss
    → All (All IsDrawn) (flats ss)
unfolding flats
all_drawn ss read = firsts_drawn [] (All-nil (All IsDrawn)) ss read

pub number_drawn : (ss : List Submission) (number : ℕ)
    → All (λ (s : Submission). IsLibrary s.library) ss → All IsDrawn (get_or (flats ss) number [])
number_drawn ss number read = numbers_drawn (flats ss) (all_drawn ss read) (Some number)
