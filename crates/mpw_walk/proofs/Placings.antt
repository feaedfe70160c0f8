-- Placings in sequence, and what they place.
use Rattle.std.proofs.Common.{◌≡◌, pos, negsuc, ◌+ℤ◌, refl, sym, ap, ◌∙◌, arith, List, [], ◌∷◌, map, Option, Some, None, if◌then◌else◌}
use Rattle.std.specs.Prelude.{int_lt, option_map}
use Rattle.std.proofs.lemmas.Int.{ints}
use Rattle.mpw_geom.specs.declared.plane.Box2.{Box2}
use Rattle.mpw_geom.specs.declared.plane.Orient.{Orient}
use Rattle.mpw_geom.specs.declared.plane.Orient.TheVariants.{R0, R90, R180, R270, M0, M90, M180, M270}
use Rattle.mpw_geom.specs.declared.plane.Point.{Point}
use Rattle.mpw_geom.specs.declared.placing.Placing.{Placing}
use Rattle.mpw_geom.specs.Placing.{by_orient, mirrored_point, turned_point, moved_point, oriented_point, placed_point}
use Rattle.mpw_geom.proofs.Chains.{same_point}
use Rattle.mpw_hier.specs.Items.{Item, mirrored, turned, placed_again, placed_item}
use Rattle.mpw_hier.specs.Boxes.{placed_box}
use Rattle.mpw_hier.specs.Placed.{BoxesArePlacedAgain}
use Rattle.mpw_hier.proofs.Placings.{oriented_again, again_point}
use Rattle.mpw_walk.specs.Turns.{Turn, enter, give, placed_turn}

-- ---- orientations

-- an orientation is determined by its image of one point
abbrev probe : Point
probe = record { x = pos 1; y = pos 2 }

abbrev told : Point → Orient
told p =
    if int_lt (pos 1) p.x then (if int_lt (pos 0) p.y then M90 else R270)
    else if int_lt (pos 0) p.x then (if int_lt (pos 0) p.y then R0 else M0)
    else if int_lt (negsuc 1) p.x then (if int_lt (pos 0) p.y then M180 else R180)
    else if int_lt (pos 0) p.y then R90 else M270

told_is : (o : Orient) → told (oriented_point o probe) ≡ o
unfolding oriented_point
told_is R0 = refl
told_is R90 = refl
told_is R180 = refl
told_is R270 = refl
told_is M0 = refl
told_is M90 = refl
told_is M180 = refl
told_is M270 = refl

pub same_orient : (a b : Orient) → ((p : Point) → oriented_point a p ≡ oriented_point b p) → a ≡ b
same_orient a b same = sym (told_is a) ∙ ap told (same probe) ∙ told_is b

-- ---- placings

pub same_placing : (a b : Placing) → a.orient ≡ b.orient → a.by ≡ b.by → a ≡ b
same_placing a b e f =
    let h : ◌≡◌ {A = Placing} (record { orient = a.orient; by = a.by })
    (record { orient = b.orient; by = b.by }) = cc in h

pub placed_again_again : (a b c : Placing)
    → placed_again (placed_again a b) c ≡ placed_again a (placed_again b c)
unfolding placed_again
placed_again_again a b c =
    let o = by_orient mirrored turned in
    same_placing _ _ (same_orient _ _ (λ p. oriented_again (o a.orient b.orient) c.orient p
    ∙ oriented_again a.orient b.orient (oriented_point c.orient p)
    ∙ ap (oriented_point a.orient) (sym (oriented_again b.orient c.orient p))
    ∙ sym (oriented_again a.orient (o b.orient c.orient) p))) (again_point a b c.by)

-- the placing that is one and then another, as it is computed
pub then_is : (inner outer result : Placing) → result.by ≡ placed_point outer inner.by
    → ((p : Point) → placed_point result p ≡ placed_point outer (placed_point inner p))
    → result ≡ placed_again outer inner
unfolding placed_again placed_point
then_is inner outer result by points =
    same_placing _ _ (same_orient _ _ (λ p. moved_same result.by (oriented_point result.orient p)
    (oriented_point (by_orient mirrored turned outer.orient inner.orient) p) (go p))) by
  where
    moved_same : (d p q : Point) → moved_point d p ≡ moved_point d q → p ≡ q
    moved_same d p q e =
        let ex : p.x +ℤ d.x ≡ q.x +ℤ d.x = ap (λ (r : Point). r.x) e in
        let ey : p.y +ℤ d.y ≡ q.y +ℤ d.y = ap (λ (r : Point). r.y) e in
        same_point p q (omega (arith, ints)) (omega (arith, ints))

    go : (p : Point) → moved_point result.by (oriented_point result.orient p) ≡ moved_point
        result.by (oriented_point (by_orient mirrored turned outer.orient inner.orient) p)
    go p = points p ∙ sym (again_point outer inner p)
        ∙ ap (λ (d : Point). moved_point d
        (oriented_point (by_orient mirrored turned outer.orient inner.orient) p)) (sym by)

-- the position of a shape that is placed by its structure's placing alone
abbrev pub here : Placing
here = record { orient = R0; by = record { x = pos 0; y = pos 0 } }

pub placed_here : (t : Placing) → placed_again t here ≡ t
unfolding placed_again placed_point oriented_point
placed_here t = same_placing _ _ (whole t.orient) (still t.orient t.by)
  where
    whole : (o : Orient) → by_orient mirrored turned o R0 ≡ o
    whole R0 = refl
    whole R90 = refl
    whole R180 = refl
    whole R270 = refl
    whole M0 = refl
    whole M90 = refl
    whole M180 = refl
    whole M270 = refl

    still : (o : Orient) (d : Point) → moved_point d
        (by_orient mirrored_point turned_point o (record { x = pos 0; y = pos 0 })) ≡ d
    still R0 d = same_point _ _ (omega (arith, ints)) (omega (arith, ints))
    still R90 d = same_point _ _ (omega (arith, ints)) (omega (arith, ints))
    still R180 d = same_point _ _ (omega (arith, ints)) (omega (arith, ints))
    still R270 d = same_point _ _ (omega (arith, ints)) (omega (arith, ints))
    still M0 d = same_point _ _ (omega (arith, ints)) (omega (arith, ints))
    still M90 d = same_point _ _ (omega (arith, ints)) (omega (arith, ints))
    still M180 d = same_point _ _ (omega (arith, ints)) (omega (arith, ints))
    still M270 d = same_point _ _ (omega (arith, ints)) (omega (arith, ints))

-- ---- items and turns

pub placed_item_again : (p q : Placing) (i : Item)
    → placed_item p (placed_item q i) ≡ placed_item (placed_again p q) i
placed_item_again p q i = ap (λ t. record { origin = i.origin; placing = t; element = i.element })
    (sym (placed_again_again p q i.placing))

pub items_again : (p q : Placing) (is : List Item)
    → map (placed_item p) (map (placed_item q) is) ≡ map (placed_item (placed_again p q)) is
items_again p q [] = refl
items_again p q (i ∷ is) = rw (placed_item_again p q i, items_again p q is) refl

module _ (again : BoxesArePlacedAgain) where
  again_some : (t u : Placing) (o : Option Box2)
      → option_map (placed_box (placed_again t u)) o
      ≡ option_map (placed_box t) (option_map (placed_box u) o)
  again_some t u None = refl
  again_some t u (Some b) = ap Some (again t u b)

  placed_turn_again : (p q : Placing) (turn : Turn)
      → placed_turn p (placed_turn q turn) ≡ placed_turn (placed_again p q) turn
  placed_turn_again p q (enter e) = ap enter (sym (again_some p q e))
  placed_turn_again p q (give i) = ap give (placed_item_again p q i)

  pub turns_again : (p q : Placing) (turns : List Turn)
      → map (placed_turn p) (map (placed_turn q) turns)
      ≡ map (placed_turn (placed_again p q)) turns
  turns_again p q [] = refl
  turns_again p q (turn ∷ turns) =
      rw (placed_turn_again p q turn, turns_again p q turns) refl
