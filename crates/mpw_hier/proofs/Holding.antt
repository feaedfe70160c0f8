-- Least boxes contain what they are the least box of.
use Rattle.std.proofs.Common.{[], ◌∷◌, Option, Some, None, arith}
use Rattle.std.proofs.lemmas.Int.{ints, clamps}
use Rattle.std.proofs.lemmas.List.Elements.{All-nil, All-cons, All-head, All-tail, All-weaker}
use Rattle.mpw_geom.specs.declared.plane.Box2.{Box2}
use Rattle.mpw_hier.specs.Items.{Item}
use Rattle.mpw_hier.specs.Boxes.{hull, item_box, extent_of}
use Rattle.mpw_geom.specs.Plane.{joined}
use Rattle.mpw_hier.specs.Holding.{IsInside, IsHeld, ExtentsHoldItems, ExtentsAreLeast}

pub inside_itself : (b : Box2) → IsInside b b
inside_itself b = record {
  left = omega (arith, ints);
  bottom = omega (arith, ints);
  right = omega (arith, ints);
  top = omega (arith, ints);
}

pub inside_joined : (a b c : Box2) → IsInside c b → IsInside c (joined a b)
inside_joined a b c h = record {
  left = omega (arith, ints, clamps);
  bottom = omega (arith, ints, clamps);
  right = omega (arith, ints, clamps);
  top = omega (arith, ints, clamps);
}

pub first_inside : (a b : Box2) → IsInside a (joined a b)
first_inside a b = record {
  left = omega (arith, ints, clamps);
  bottom = omega (arith, ints, clamps);
  right = omega (arith, ints, clamps);
  top = omega (arith, ints, clamps);
}

joined_inside : (a b c : Box2) → IsInside a c → IsInside b c → IsInside (joined a b) c
joined_inside a b c h k = record {
  left = omega (arith, ints, clamps);
  bottom = omega (arith, ints, clamps);
  right = omega (arith, ints, clamps);
  top = omega (arith, ints, clamps);
}

held_first : (a b : Option Box2) → IsHeld a (hull a b)
held_first None b = tt
held_first (Some a) None = inside_itself a
held_first (Some a) (Some b) = first_inside a b

held_behind : (a b c : Option Box2) → IsHeld c b → IsHeld c (hull a b)
held_behind a b None h = tt
held_behind None b (Some c) h = h
held_behind (Some a) None (Some c) h = absurd h
held_behind (Some a) (Some b) (Some c) h = inside_joined a b c h

held_both : (a b c : Option Box2) → IsHeld a c → IsHeld b c → IsHeld (hull a b) c
held_both None b c h k = k
held_both (Some a) None c h k = h
held_both (Some a) (Some b) None h k = h
held_both (Some a) (Some b) (Some c) h k = joined_inside a b c h k

pub extent_holds : ExtentsHoldItems
unfolding extent_of
extent_holds [] = All-nil (λ i. IsHeld (item_box i) None)
extent_holds (x ∷ xs) =
    let whole = hull (item_box x) (extent_of xs) in
    All-cons (λ i. IsHeld (item_box i) whole) x xs (held_first (item_box x) (extent_of xs))
    (All-weaker (λ i. IsHeld (item_box i) (extent_of xs)) (λ i. IsHeld (item_box i) whole)
    (λ i h. held_behind (item_box x) (extent_of xs) (item_box i) h) xs (extent_holds xs))

pub extent_least : ExtentsAreLeast
unfolding extent_of
extent_least [] outer h = tt
extent_least (x ∷ xs) outer h =
    let P : Item → Type 0 = λ i. IsHeld (item_box i) outer in
    held_both (item_box x) (extent_of xs) outer (All-head P x xs h)
    (extent_least xs outer (All-tail P x xs h))
