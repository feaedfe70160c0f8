-- Displaced entries have the same items, displaced.
use Rattle.std.proofs.Common.{◌≡◌, ◌<◌, ℕ, zero, suc, List, [], ◌∷◌, ◌++◌, length, get_or, map, Option, Some, None, refl, sym, ap, ◌∙◌, arith}
use Rattle.std.specs.List.{flat_map}
use Rattle.std.proofs.lemmas.Int.{ints}
use Rattle.std.proofs.lemmas.List.{map-append}
use Rattle.mpw_geom.proofs.Chains.{same_point}
use Rattle.mpw_geom.specs.Placing.{moved_point, placed_point, oriented_point}
use Rattle.mpw_geom.specs.declared.plane.Orient.TheVariants.{R0}
use Rattle.mpw_geom.specs.declared.plane.Point.{Point}
use Rattle.mpw_geom.specs.declared.placing.Placing.{Placing}
use Rattle.mpw_structures.specs.declared.element.Element.{Element}
use Rattle.mpw_hier.specs.declared.submission.Submission.{Submission}
use Rattle.mpw_hier.specs.Items.{Item, placed_again, placed_item, placed_items}
use Rattle.mpw_columns_contents.specs.declared.thing.Array.{Array}
use Rattle.mpw_columns_contents.specs.declared.thing.Thing.{Thing}
use Rattle.mpw_columns_contents.specs.declared.thing.Thing.TheVariants as things
use Rattle.mpw_columns_contents.specs.Displaced.{place_of_thing, bare, moved, moved_placing, moved_array, moved_thing, AreMoved}
use Rattle.mpw_columns_contents.specs.Things.{drawn, place_shown, reference_of, thing_items, things_items}
use Rattle.mpw_columns_contents.specs.Internal.Moving.{way_between}
use Rattle.mpw_columns_contents.specs.Internal.Opening.{IsPlacedReference}
use Rattle.mpw_columns_contents.proofs.Lists.{map_same}
use Rattle.mpw_columns_contents.proofs.Steps.{items_placed}

-- to displace is to place by a displacement alone
abbrev by_way : Point → Placing
by_way d = record { orient = R0; by = d }

moved_is : (d : Point) (i : Item) → placed_item (by_way d) i ≡ moved d i
unfolding placed_again placed_point oriented_point
moved_is d i = refl

reference_moved : (d : Point) (a : Array)
    → IsPlacedReference (by_way d) (reference_of a) (reference_of (moved_array d a))
unfolding placed_again placed_point oriented_point
reference_moved d a =
    record { first = refl; columns = refl; rows = refl; column_step = refl; row_step = refl }

drawn_moved : (d : Point) (t : Placing) (o : Option Element)
    → drawn (moved_placing d t) o ≡ map (moved d) (drawn t o)
drawn_moved d t None = refl
drawn_moved d t (Some e) = refl

thing_moved : (ss : List Submission) (d : Point) (thing : Thing)
    → thing_items ss (moved_thing d thing) ≡ map (moved d) (thing_items ss thing)
unfolding thing_items
thing_moved ss d (things.Shape shape) = drawn_moved d shape.placing _
thing_moved ss d (things.Array a) =
    sym (items_placed (by_way d) (reference_of a) (reference_of (moved_array d a))
    (reference_moved d a) (place_shown ss a.structure))
    ∙ map_same (placed_item (by_way d)) (moved d) (moved_is d)
    (placed_items (reference_of a) (place_shown ss a.structure))

all_moved : (ss : List Submission) (d : Point) (ts : List Thing)
    → things_items ss (map (moved_thing d) ts) ≡ map (moved d) (things_items ss ts)
unfolding things_items
all_moved ss d [] = refl
all_moved ss d (t ∷ ts) =
    ap (λ items. items ++ flat_map (thing_items ss) (map (moved_thing d) ts)) (thing_moved ss d t)
    ∙ ap (λ items. map (moved d) (thing_items ss t) ++ items) (all_moved ss d ts)
    ∙ sym (map-append (moved d) (thing_items ss t) (flat_map (thing_items ss) ts))

-- the area has no items
thing_bare : (ss : List Submission) (thing : Thing)
    → thing_items ss (bare thing) ≡ thing_items ss thing
unfolding thing_items
thing_bare ss (things.Shape shape) = refl
thing_bare ss (things.Array a) = refl

all_bare : (ss : List Submission) (ts : List Thing)
    → things_items ss (map bare ts) ≡ things_items ss ts
unfolding things_items
all_bare ss [] = refl
all_bare ss (t ∷ ts) =
    ap (λ items. items ++ flat_map (thing_items ss) (map bare ts)) (thing_bare ss t)
    ∙ ap (λ items. thing_items ss t ++ items) (all_bare ss ts)

pub shown_moved : (d : Point) (from to : List Thing) → AreMoved d from to → (ss : List Submission)
    → things_items ss to ≡ map (moved d) (things_items ss from)
shown_moved d from to h ss =
    sym (all_bare ss to) ∙ ap (things_items ss) h ∙ all_moved ss d from

-- ---- which displacement it is

pub place_moved : (d : Point) (t : Thing)
    → place_of_thing (moved_thing d t) ≡ moved_point d (place_of_thing t)
place_moved d (things.Shape shape) = refl
place_moved d (things.Array a) = refl

pub place_bare : (t : Thing) → place_of_thing (bare t) ≡ place_of_thing t
place_bare (things.Shape shape) = refl
place_bare (things.Array a) = refl

way_is : (d p q : Point) → q ≡ moved_point d p → d ≡ way_between p q
way_is d p q e =
    let x = ap (λ (r : Point). r.x) e in
    let y = ap (λ (r : Point). r.y) e in
    same_point _ _ (omega (arith, ints, x)) (omega (arith, ints, y))

-- entry by entry
pub each_moved : (d : Point) (from to : List Thing) → AreMoved d from to → (i : ℕ)
    → i < length from → (x y : Thing) → bare (get_or to i y) ≡ moved_thing d (get_or from i x)
each_moved d [] to h i lt x y = absurd (omega (arith, lt))
each_moved d (t ∷ ts) [] h i lt x y = absurd cc
each_moved d (t ∷ ts) (u ∷ us) h zero lt x y = ap (λ xs. get_or xs 0 (bare y)) h
each_moved d (t ∷ ts) (u ∷ us) h (suc i) lt x y =
    let rest : AreMoved d ts us = cc in each_moved d ts us rest i (omega (arith, lt)) x y

-- the first entries determine it
pub first_tells : (d : Point) (from to : List Thing) (x y : Thing) (p q w : Point)
    → AreMoved d from to → 0 < length from
    → p ≡ place_of_thing (get_or from 0 x) → q ≡ place_of_thing (get_or to 0 y)
    → w ≡ way_between p q → d ≡ w
first_tells d from to x y p q w h some first other way =
    way_is d p q (other ∙ sym (place_bare (get_or to 0 y))
    ∙ ap place_of_thing (each_moved d from to h 0 some x y) ∙ place_moved d (get_or from 0 x)
    ∙ ap (moved_point d) (sym first)) ∙ sym way
