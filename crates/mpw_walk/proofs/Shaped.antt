-- A flat list consists of boundaries and paths.
use Rattle.std.proofs.Common.{◌≡◌, ℕ, true, List, [], ◌∷◌, length, map, refl}
use Rattle.std.specs.Prelude.{All}
use Rattle.std.proofs.lemmas.List.Elements.{All-nil, All-cons, All-append, All-map}
use Rattle.mpw_structures.specs.declared.element.Element.{Element}
use Rattle.mpw_structures.specs.declared.element.Element.TheVariants as elements
use Rattle.mpw_structures.specs.declared.element.Reference.{Reference}
use Rattle.mpw_structures.specs.declared.structures.Structure.{Structure}
use Rattle.mpw_hier.specs.declared.submission.Submission.{Submission}
use Rattle.mpw_hier.specs.Structures.{references, is_shape}
use Rattle.mpw_hier.specs.Items.{Item, own_items, placed_item, placed_items, shown_items, instances}
use Rattle.mpw_hier.specs.Levels.{levels_of}
use Rattle.mpw_hier.specs.Values.{at_number, bound_number, structure_items, flat_of, flats, flat}
use Rattle.mpw_walk.specs.declared.root.Root.{Root}
use Rattle.mpw_walk.specs.Turns.{flat_root, flat_roots}
use Rattle.mpw_walk.proofs.Drawn.{all_flat}
use Rattle.mpw_walk.proofs.Related.{Related, none, related_at, numbers_related, levels_related, firsts_related}

abbrev IsOfShape : Item → Type 0
IsOfShape i = is_shape i.element ≡ true

-- the first of three lists, in the form that lemmas about contents need
abbrev AreOfShapes : List Item → List Item → List Item → Type 0
AreOfShapes xs ys zs = All IsOfShape xs

own_shapes : (n : ℕ) (es : List Element) → All IsOfShape (own_items n es)
own_shapes n [] = All-nil IsOfShape
own_shapes n (elements.Boundary b ∷ es) = All-cons IsOfShape _ _ refl (own_shapes n es)
own_shapes n (elements.Path p ∷ es) = All-cons IsOfShape _ _ refl (own_shapes n es)
own_shapes n (elements.Reference r ∷ es) = own_shapes n es

shown_shapes : (n : ℕ) (s : Structure) (below : List ℕ → List Item)
    → ((target : List ℕ) → All IsOfShape (below target)) → All IsOfShape (shown_items n s below)
shown_shapes n s below down =
    All-append IsOfShape (own_items n s.elements) _ (own_shapes n s.elements)
    (all_flat IsOfShape (λ (r : Reference). placed_items r (below r.name)) (references s.elements)
    (λ r. all_flat IsOfShape (λ t. map (placed_item t) (below r.name)) (instances r)
    (λ t. All-map IsOfShape (placed_item t) (below r.name) (down r.name))))

names_shapes : (xs ys zs : List (List Item)) (s : Submission) → Related AreOfShapes xs ys zs
    → (name : List ℕ) → AreOfShapes (structure_items xs s name) (structure_items ys s name)
    (structure_items zs s name)
names_shapes xs ys zs s r name =
    levels_related AreOfShapes (shown_items (length xs)) (shown_items (length ys))
    (shown_items (length zs)) [] [] [] (λ outside. at_number [] xs (bound_number s.bound outside))
    (λ outside. at_number [] ys (bound_number s.bound outside))
    (λ outside. at_number [] zs (bound_number s.bound outside))
    (λ t x y z down. shown_shapes (length xs) t x down) (All-nil IsOfShape)
    (λ outside. numbers_related AreOfShapes xs ys zs [] [] [] (All-nil IsOfShape) r
    (bound_number s.bound outside)) (levels_of s.library) s.library name

all_shapes : (ss : List Submission) → Related AreOfShapes (flats ss) (flats ss) (flats ss)
unfolding flats
all_shapes ss =
    firsts_related AreOfShapes flat_of flat_of flat_of
    (λ xs ys zs s r. names_shapes xs ys zs s r s.top) [] [] [] none ss

pub number_shapes : (ss : List Submission) (number : ℕ)
    → All (λ (i : Item). is_shape i.element ≡ true) (flat ss number)
number_shapes ss number = related_at (all_shapes ss) [] [] [] (All-nil IsOfShape) number

pub roots_shapes : (ss : List Submission) (roots : List Root)
    → All (λ (i : Item). is_shape i.element ≡ true) (flat_roots ss roots)
unfolding flat_roots
roots_shapes ss roots =
    all_flat IsOfShape (flat_root ss) roots
    (λ root. All-map IsOfShape (placed_item root.placing) (flat ss root.submission)
    (number_shapes ss root.submission))
