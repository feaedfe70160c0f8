-- If the box of a flat list is near, each of its shapes is close; and a placing that takes a close shape to a close one is short.
use Rattle.std.proofs.Common.{◌≡◌, ℕ, zero, suc, Bool, true, false, if◌then◌else◌, ℤ, neg_ℤ, ◌+ℤ◌, List, [], ◌∷◌, map, Option, Some, None, refl, sym, ap, subst, ◌∙◌, arith}
use Rattle.std.specs.Prelude.{option_map, All, IfSome}
use Rattle.std.proofs.lemmas.Int.{ints, clamps}
use Rattle.std.proofs.lemmas.List.Elements.{All-nil, All-cons, All-head, All-tail, All-map}
use Rattle.std.proofs.lemmas.Bool.{and_parts}
use Rattle.mpw_geom.specs.declared.plane.Box2.{Box2}
use Rattle.mpw_geom.specs.declared.plane.Orient.{Orient}
use Rattle.mpw_geom.specs.declared.plane.Point.{Point}
use Rattle.mpw_geom.specs.declared.placing.Placing.{Placing}
use Rattle.mpw_geom.specs.Plane.{IsInPlane, box_between, joined}
use Rattle.mpw_geom.specs.Placing.{is_mirrored, quarter_turns, times, mirrored_point, turned_point, oriented_point, placed_point}
use Rattle.mpw_geom.proofs.Tests.{le_from_test, test_from_PointIn, PointIn-from_test, PointIn}
use Rattle.mpw_geom.proofs.Turns.{placed_points}
use Rattle.mpw_hier.specs.Items.{Item, placed_again, placed_item}
use Rattle.mpw_hier.proofs.Placings.{again_point}
use Rattle.mpw_hier.specs.Boxes.{hull, element_box, placed_box, item_box, extent_of, is_near, is_box_near}
use Rattle.mpw_walk.specs.Near.{IsClose, IsClosePoint, IsCloseItem, corner_of}
use Rattle.mpw_walk.specs.Frames.{IsShort, IsWithin}

-- ---- a placing between close points

minus_close : (z : ℤ) → IsClose z → IsClose (neg_ℤ z)
minus_close z h = record {
  low = omega (arith, ints, h.high);
  high = omega (arith, ints, h.low);
}

close_turned : (o : Orient) (p : Point) → IsClosePoint p → IsClosePoint (oriented_point o p)
unfolding oriented_point
close_turned o p h = turned (quarter_turns o) _ (mirrored (is_mirrored o))
  where
    mirrored : (b : Bool) → IsClosePoint (if b then mirrored_point p else p)
    mirrored true = record { x = h.x; y = minus_close p.y h.y }
    mirrored false = h

    turned : (n : ℕ) (q : Point) → IsClosePoint q → IsClosePoint (times turned_point n q)
    turned zero q k = k
    turned (suc n) q k =
        let there = turned n q k in record { x = minus_close _ there.y; y = there.x }

short_between : (a d : ℤ) → IsClose a → IsClose (a +ℤ d) → IsShort d
short_between a d h l =
    record {
      low = omega (arith, ints, h.low, h.high, l.low, l.high);
      high = omega (arith, ints, h.low, h.high, l.low, l.high);
    }

within_between : (t : Placing) (p : Point) → IsClosePoint p → IsClosePoint (placed_point t p)
    → IsWithin t.by
unfolding placed_point
within_between t p h l =
    let q = close_turned t.orient p h in record {
      x = short_between (oriented_point t.orient p).x t.by.x q.x l.x;
      y = short_between (oriented_point t.orient p).y t.by.y q.y l.y;
    }

pub short_placing : (t : Placing) (i : Item) → IsCloseItem i → IsCloseItem (placed_item t i)
    → IsWithin t.by
short_placing t i h l =
    let both : Some h.corner ≡ Some l.corner = sym h.is ∙ l.is in
    let same : l.corner ≡ h.corner = cc in
    let there =
    subst (λ c. IsClosePoint (placed_point (placed_again t i.placing) c)) same l.close in
    within_between t (placed_point i.placing h.corner) h.close
    (subst IsClosePoint (again_point t i.placing h.corner) there)

-- ---- boxes and the points in them

covers_left : (a b : Box2) (p : Point) → PointIn a p → PointIn (joined a b) p
covers_left a b p h = record {
  left = omega (arith, ints, clamps, h.left);
  right = omega (arith, ints, clamps, h.right);
  bottom = omega (arith, ints, clamps, h.bottom);
  top = omega (arith, ints, clamps, h.top);
}

covers_right : (a b : Box2) (p : Point) → PointIn b p → PointIn (joined a b) p
covers_right a b p h = record {
  left = omega (arith, ints, clamps, h.left);
  right = omega (arith, ints, clamps, h.right);
  bottom = omega (arith, ints, clamps, h.bottom);
  top = omega (arith, ints, clamps, h.top);
}

covers_corner : (p q : Point) → PointIn (box_between p q) p
unfolding box_between
covers_corner p q = record {
  left = omega (arith, ints, clamps);
  right = omega (arith, ints, clamps);
  bottom = omega (arith, ints, clamps);
  top = omega (arith, ints, clamps);
}

-- a shape with a box, whose placed corner a box covers
pub record IsCovered (b : Box2) (i : Item) : Type 0 where
  pub corner : Point
  pub is : corner_of i.element ≡ Some corner
  pub covered : PointIn b (placed_point i.placing corner)

-- a shape with a box
abbrev pub IsDrawn : Item → Type 0
IsDrawn i = (b : Box2) × (element_box i.element ≡ Some b)

item_covered : (i : Item) (d : IsDrawn i) → (a : Box2) × (item_box i ≡ Some a) × (IsCovered a i)
unfolding placed_box
item_covered i d =
    let b = d.0 in
    let c : Point = record { x = b.x0; y = b.y0 } in
    let e : Point = record { x = b.x1; y = b.y1 } in
    let a = box_between (placed_point i.placing c) (placed_point i.placing e) in (
      a,
      ap (option_map (placed_box i.placing)) d.1,
      record {
        corner = c;
        is = ap (option_map (λ (b : Box2). record { x = b.x0; y = b.y0 })) d.1;
        covered = covers_corner (placed_point i.placing c) (placed_point i.placing e);
      },
    )

none_drawn : (items : List Item) → All IsDrawn items → extent_of items ≡ None → items ≡ []
unfolding extent_of
none_drawn [] d none = refl
none_drawn (i ∷ items) d none =
    let c = item_covered i (All-head IsDrawn i items d) in
    go c.0 (extent_of items) (ap (λ o. hull o (extent_of items)) (sym c.1) ∙ none)
  where
    go : (a : Box2) (o : Option Box2) → hull (Some a) o ≡ None → (i ∷ items) ≡ []
    go a None e = absurd cc
    go a (Some b) e = absurd cc

pub extent_covers : (items : List Item) → All IsDrawn items → (box : Box2)
    → extent_of items ≡ Some box → All (IsCovered box) items
unfolding extent_of
extent_covers [] d box is = All-nil (IsCovered box)
extent_covers (i ∷ items) d box is =
    let c = item_covered i (All-head IsDrawn i items d) in
    go (none_drawn items (All-tail IsDrawn i items d))
    (extent_covers items (All-tail IsDrawn i items d)) c.0 c.2 (extent_of items) refl
    (ap (λ o. hull o (extent_of items)) (sym c.1) ∙ is)
  where
    wider : (a b : Box2) → ((p : Point) → PointIn a p → PointIn b p) → (xs : List Item)
        → All (IsCovered a) xs → All (IsCovered b) xs
    wider a b more xs all = λ k d' lt. let h = all k d' lt in
        record { corner = h.corner; is = h.is; covered = more _ h.covered }

    go : (extent_of items ≡ None → items ≡ [])
        → ((box : Box2) → extent_of items ≡ Some box → All (IsCovered box) items) → (a : Box2)
        → IsCovered a i → (o : Option Box2) → extent_of items ≡ o → hull (Some a) o ≡ Some box
        → All (IsCovered box) (i ∷ items)
    go alone rest a here None none whole =
        let box_is : a ≡ box = cc in
        subst (λ (xs : List Item). All (IsCovered box) (i ∷ xs)) (sym (alone none))
        (All-cons (IsCovered box) i [] (subst (λ (x : Box2). IsCovered x i) box_is here)
        (All-nil (IsCovered box)))
    go alone rest a here (Some b) some whole =
        let same : Some (joined a b) ≡ Some box = whole in
        let box_is : joined a b ≡ box = cc in
        subst (λ (x : Box2). All (IsCovered x) (i ∷ items)) box_is
        (All-cons (IsCovered (joined a b)) i items
        (record {
          corner = here.corner;
          is = here.is;
          covered = covers_left a b _ here.covered;
        }) (wider b (joined a b) (covers_right a b) items (rest b some)))

-- ---- near boxes

near_parts : (z : ℤ) → is_near z ≡ true → IsClose z
near_parts z h =
    let f = and_parts _ _ h in
    record { low = le_from_test _ _ f.0; high = le_from_test _ _ f.1 }

close_in : (b : Box2) (p : Point) → is_box_near b ≡ true → PointIn b p → IsClosePoint p
unfolding is_box_near
close_in b p near h =
    let f = and_parts _ _ near in
    let g = and_parts _ _ f.0 in
    let k = and_parts _ _ g.0 in
    let x0 = near_parts b.x0 k.0 in
    let y0 = near_parts b.y0 k.1 in
    let x1 = near_parts b.x1 g.1 in
    let y1 = near_parts b.y1 f.1 in record {
      x = record {
        low = omega (arith, ints, x0.low, h.left);
        high = omega (arith, ints, x1.high, h.right);
      };
      y = record {
        low = omega (arith, ints, y0.low, h.bottom);
        high = omega (arith, ints, y1.high, h.top);
      };
    }

-- the flat list of a near extent
pub items_close : (items : List Item) → All IsDrawn items
    → IfSome (extent_of items) (λ box. is_box_near box ≡ true) → All IsCloseItem items
items_close items d near =
    go (none_drawn items d) (extent_covers items d) (extent_of items) refl near
  where
    go : (extent_of items ≡ None → items ≡ [])
        → ((box : Box2) → extent_of items ≡ Some box → All (IsCovered box) items)
        → (o : Option Box2) → extent_of items ≡ o → IfSome o (λ box. is_box_near box ≡ true)
        → All IsCloseItem items
    go alone covers None none near = subst (All IsCloseItem) (sym (alone none))
        (All-nil IsCloseItem)
    go alone covers (Some box) some near =
        λ k d' lt. let h = covers box some k d' lt in
        record { corner = h.corner; is = h.is; close = close_in box _ near h.covered }

-- the flat list of an extent whose image is near
placed_in : (t : Placing) (box : Box2) (p : Point) → PointIn box p
    → PointIn (placed_box t box) (placed_point t p)
unfolding placed_box
placed_in t box p h =
    PointIn-from_test (placed_box t box) (placed_point t p)
    (placed_points t box p (omega (arith, ints, h.left, h.right))
    (omega (arith, ints, h.bottom, h.top)) ∙ test_from_PointIn box p h)

pub placed_close : (t : Placing) (items : List Item) → All IsDrawn items
    → IfSome (extent_of items) (λ box. is_box_near (placed_box t box) ≡ true)
    → All IsCloseItem (map (placed_item t) items)
placed_close t items d near =
    All-map IsCloseItem (placed_item t) items
    (go (none_drawn items d) (extent_covers items d) (extent_of items) refl near)
  where
    go : (extent_of items ≡ None → items ≡ [])
        → ((box : Box2) → extent_of items ≡ Some box → All (IsCovered box) items)
        → (o : Option Box2) → extent_of items ≡ o
        → IfSome o (λ box. is_box_near (placed_box t box) ≡ true)
        → All (λ i. IsCloseItem (placed_item t i)) items
    go alone covers None none near =
        subst (All (λ i. IsCloseItem (placed_item t i))) (sym (alone none))
        (All-nil (λ i. IsCloseItem (placed_item t i)))
    go alone covers (Some box) some near =
        λ k d' lt. let h = covers box some k d' lt in record {
          corner = h.corner;
          is = h.is;
          close = subst IsClosePoint (sym (again_point t _ h.corner))
              (close_in (placed_box t box) _ near (placed_in t box _ h.covered));
        }

-- ---- a near box whose image is near

pub near_corners : (b : Box2) → is_box_near b ≡ true → IsClosePoint (record { x = b.x0; y = b.y0 })
    × IsClosePoint (record { x = b.x1; y = b.y1 })
unfolding is_box_near
near_corners b near =
    let f = and_parts _ _ near in
    let g = and_parts _ _ f.0 in
    let k = and_parts _ _ g.0 in (
      record { x = near_parts b.x0 k.0; y = near_parts b.y0 k.1 },
      record { x = near_parts b.x1 g.1; y = near_parts b.y1 f.1 },
    )

pub near_both : (t : Placing) (b : Box2) → is_box_near b ≡ true
    → is_box_near (placed_box t b) ≡ true → IsWithin t.by
unfolding placed_box
near_both t b near there =
    let c : Point = record { x = b.x0; y = b.y0 } in
    let e : Point = record { x = b.x1; y = b.y1 } in
    within_between t c (near_corners b near).0
    (close_in (placed_box t b) (placed_point t c) there
    (covers_corner (placed_point t c) (placed_point t e)))

pub far_placed : (t : Placing) (b : Box2) → is_box_near b ≡ true → (IsWithin t.by → ⊥)
    → is_box_near (placed_box t b) ≡ false
far_placed t b near far = go (is_box_near (placed_box t b)) refl
  where
    go : (x : Bool) → is_box_near (placed_box t b) ≡ x → x ≡ false
    go true e = absurd (far (near_both t b near e))
    go false e = refl

pub close_in_plane : (p : Point) → IsClosePoint p → IsInPlane p
close_in_plane p h = record {
  x = record { low = omega (arith, ints, h.x.low); high = omega (arith, ints, h.x.high) };
  y = record { low = omega (arith, ints, h.y.low); high = omega (arith, ints, h.y.high) };
}
