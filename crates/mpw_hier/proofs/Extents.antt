-- The extents of flat lists.
use Rattle.std.proofs.Common.{◌≡◌, ℕ, Bool, true, false, cond, pos, List, [], ◌∷◌, ◌++◌, map, Option, Some, None, IfSome, refl, ap, sym, ◌∙◌, arith}
use Rattle.std.specs.Prelude.{filter, option_map, int_div}
use Rattle.std.specs.List.{flat_map}
use Rattle.std.proofs.lemmas.Int.{ints, clamps}
use Rattle.mpw_geom.specs.declared.plane.Box2.{Box2}
use Rattle.mpw_geom.specs.declared.plane.Point.{Point}
use Rattle.mpw_geom.specs.declared.placing.Placing.{Placing}
use Rattle.mpw_geom.specs.Plane.{box_at, IsOrdered, joined}
use Rattle.mpw_structures.specs.declared.element.Element.{Element}
use Rattle.mpw_structures.specs.declared.element.Element.TheVariants as elements
use Rattle.mpw_structures.specs.declared.element.Reference.{Reference}
use Rattle.mpw_shapes.specs.Path.{wire_boxes}
use Rattle.mpw_hier.specs.Items.{Item, placed_again, placed_item, placed_items, instances}
use Rattle.mpw_hier.specs.Boxes.{hull, hull_of, hull_of_points, has_area, element_box, placed_box, item_box, extent_of}
use Rattle.mpw_hier.specs.Internal.SizeParts.{array_extent}
use Rattle.mpw_hier.proofs.Hulls.{hull_assoc}
use Rattle.mpw_hier.proofs.Placings.{again_box, placed_ordered, placed_joined, unmoved, unmoved_box}

-- ---- least boxes have their first corner at the lower left

abbrev pub AreOrdered : Option Box2 → Type 0
AreOrdered o = IfSome o IsOrdered

joined_ordered : (a b : Box2) → IsOrdered a → IsOrdered b → IsOrdered (joined a b)
joined_ordered a b h k = record { x = omega (arith, ints, clamps); y = omega (arith, ints, clamps) }

pub hull_ordered : (a b : Option Box2) → AreOrdered a → AreOrdered b → AreOrdered (hull a b)
hull_ordered None b h k = k
hull_ordered (Some a) None h k = h
hull_ordered (Some a) (Some b) h k = joined_ordered a b h k

points_ordered : (ps : List Point) → AreOrdered (hull_of_points ps)
unfolding hull_of_points
points_ordered [] = tt
points_ordered (p ∷ ps) =
    hull_ordered (Some (box_at p)) (hull_of_points ps)
    (record { x = omega (arith, ints); y = omega (arith, ints) }) (points_ordered ps)

area_ordered : (b : Box2) → has_area b ≡ true → IsOrdered b
area_ordered b h = record { x = grind (arith, ints); y = grind (arith, ints) }

pub areas_ordered : (bs : List Box2) → AreOrdered (hull_of (filter has_area bs))
unfolding hull_of
areas_ordered [] = tt
areas_ordered (b ∷ bs) = go (areas_ordered bs) (has_area b) refl
  where
    go : AreOrdered (hull_of (filter has_area bs)) → (t : Bool) → has_area b ≡ t
        → AreOrdered (hull_of (cond t (b ∷ filter has_area bs) (filter has_area bs)))
    go more true e = hull_ordered (Some b) (hull_of (filter has_area bs)) (area_ordered b e) more
    go more false e = more

pub element_ordered : (e : Element) → AreOrdered (element_box e)
unfolding element_box
element_ordered (elements.Boundary b) = points_ordered b.points
element_ordered (elements.Path p) = hull_ordered (hull_of_points p.points) _
    (points_ordered p.points) (areas_ordered
    (wire_boxes (int_div p.width (pos 2)) p.begin p.end p.points))
element_ordered (elements.Reference r) = tt

pub hull_map_ordered : {A : Type 0} (f : A → Box2) → ((a : A) → IsOrdered (f a)) → (xs : List A)
    → AreOrdered (hull_of (map f xs))
unfolding hull_of
hull_map_ordered f each [] = tt
hull_map_ordered f each (x ∷ xs) =
    hull_ordered (Some (f x)) (hull_of (map f xs)) (each x) (hull_map_ordered f each xs)

pub array_ordered : (r : Reference) (o : Option Box2) → AreOrdered (array_extent r o)
unfolding array_extent
array_ordered r None = tt
array_ordered r (Some b) =
    hull_map_ordered (λ t. placed_box t b) (λ t. placed_ordered t b) (instances r)

placed_some : (t : Placing) (o : Option Box2) → AreOrdered (option_map (placed_box t) o)
placed_some t None = tt
placed_some t (Some b) = placed_ordered t b

pub extent_ordered : (xs : List Item) → AreOrdered (extent_of xs)
unfolding extent_of
extent_ordered [] = tt
extent_ordered (x ∷ xs) = hull_ordered (item_box x) (extent_of xs)
    (placed_some x.placing (element_box x.element)) (extent_ordered xs)

-- ---- lists joined

pub extent_append : (xs ys : List Item) → extent_of (xs ++ ys) ≡ hull (extent_of xs) (extent_of ys)
unfolding extent_of
extent_append [] ys = refl
extent_append (x ∷ xs) ys = ap (hull (item_box x)) (extent_append xs ys)
    ∙ sym (hull_assoc (item_box x) (extent_of xs) (extent_of ys))

-- ---- lists placed

placed_hull : (t : Placing) (a b : Option Box2) → AreOrdered a → AreOrdered b
    → option_map (placed_box t) (hull a b) ≡ hull (option_map (placed_box t) a)
    (option_map (placed_box t) b)
placed_hull t None b h k = refl
placed_hull t (Some a) None h k = refl
placed_hull t (Some a) (Some b) h k = ap Some (placed_joined t a b h k)

again_some : (t u : Placing) (o : Option Box2)
    → option_map (placed_box (placed_again t u)) o ≡ option_map (placed_box t)
    (option_map (placed_box u) o)
again_some t u None = refl
again_some t u (Some b) = ap Some (again_box t u b)

pub extent_placed : (t : Placing) (xs : List Item)
    → extent_of (map (placed_item t) xs) ≡ option_map (placed_box t) (extent_of xs)
unfolding extent_of
extent_placed t [] = refl
extent_placed t (x ∷ xs) =
    ap (λ o. hull o (extent_of (map (placed_item t) xs)))
    (again_some t x.placing (element_box x.element))
    ∙ ap (hull (option_map (placed_box t) (item_box x))) (extent_placed t xs)
    ∙ sym (placed_hull t (item_box x) (extent_of xs)
    (placed_some x.placing (element_box x.element)) (extent_ordered xs))

none_placed : (xs : List Item) → extent_of xs ≡ None → (ts : List Placing)
    → extent_of (flat_map (λ t. map (placed_item t) xs) ts) ≡ None
unfolding extent_of
none_placed xs e [] = refl
none_placed xs e (t ∷ ts) =
    extent_append (map (placed_item t) xs) (flat_map (λ u. map (placed_item u) xs) ts)
    ∙ ap (λ o. hull o (extent_of (flat_map (λ u. map (placed_item u) xs) ts)))
    (extent_placed t xs ∙ ap (option_map (placed_box t)) e) ∙ none_placed xs e ts

some_placed : (xs : List Item) (b : Box2) → extent_of xs ≡ Some b → (ts : List Placing)
    → extent_of (flat_map (λ t. map (placed_item t) xs) ts) ≡ hull_of (map (λ t. placed_box t b) ts)
unfolding extent_of hull_of
some_placed xs b e [] = refl
some_placed xs b e (t ∷ ts) =
    extent_append (map (placed_item t) xs) (flat_map (λ u. map (placed_item u) xs) ts)
    ∙ ap (λ o. hull o (extent_of (flat_map (λ u. map (placed_item u) xs) ts)))
    (extent_placed t xs ∙ ap (option_map (placed_box t)) e)
    ∙ ap (hull (Some (placed_box t b))) (some_placed xs b e ts)

-- the extent of all instances is the least box of all instances of the extent
pub extent_array : (r : Reference) (xs : List Item)
    → extent_of (placed_items r xs) ≡ array_extent r (extent_of xs)
unfolding array_extent
extent_array r xs = go (extent_of xs) refl
  where
    go : (o : Option Box2) → extent_of xs ≡ o → extent_of (placed_items r xs) ≡ array_extent r o
    go None e = none_placed xs e (instances r)
    go (Some b) e = some_placed xs b e (instances r)

-- a shape of the structure's own stays in place
own_some : (o : Option Box2) → AreOrdered o → option_map (placed_box unmoved) o ≡ o
own_some None h = refl
own_some (Some b) h = ap Some (unmoved_box b h)

pub own_box : (number : ℕ) (e : Element)
    → item_box (record { origin = number; placing = unmoved; element = e }) ≡ element_box e
own_box number e = own_some (element_box e) (element_ordered e)
