-- Placings one after another, on points and on boxes.
use Rattle.std.proofs.Common.{◌≡◌, ℕ, zero, suc, pos, Bool, true, false, if◌then◌else◌, refl, ap, sym, ◌∙◌, arith}
use Rattle.std.proofs.lemmas.Int.{ints, clamps}
use Rattle.mpw_geom.proofs.Boxes.{same_box}
use Rattle.mpw_geom.proofs.Chains.{same_point, placed-placed_point}
use Rattle.mpw_geom.specs.declared.plane.Box2.{Box2}
use Rattle.mpw_geom.specs.declared.plane.Orient.{Orient}
use Rattle.mpw_geom.specs.declared.plane.Orient.TheVariants.{R0, R90, R180, R270, M0, M90, M180, M270}
use Rattle.mpw_geom.specs.declared.plane.Point.{Point}
use Rattle.mpw_geom.specs.declared.placing.Placing.{Placing}
use Rattle.mpw_geom.specs.Plane.{IsOrdered, box_between, joined}
use Rattle.mpw_geom.specs.Placing.{is_mirrored, quarter_turns, times, by_orient, mirrored_point, turned_point, moved_point, oriented_point, placed_point}
use Rattle.mpw_hier.specs.Items.{mirrored, turned, placed_again}
use Rattle.mpw_hier.specs.Boxes.{placed_box}

-- ---- points

mirrored_is : (p : Point) (o : Orient)
    → oriented_point (mirrored o) p ≡ mirrored_point (oriented_point o p)
unfolding oriented_point
mirrored_is p R0 = refl
mirrored_is p R90 = same_point _ _ (omega (arith, ints)) (omega (arith, ints))
mirrored_is p R180 = same_point _ _ (omega (arith, ints)) (omega (arith, ints))
mirrored_is p R270 = same_point _ _ (omega (arith, ints)) (omega (arith, ints))
mirrored_is p M0 = same_point _ _ (omega (arith, ints)) (omega (arith, ints))
mirrored_is p M90 = same_point _ _ (omega (arith, ints)) (omega (arith, ints))
mirrored_is p M180 = same_point _ _ (omega (arith, ints)) (omega (arith, ints))
mirrored_is p M270 = same_point _ _ (omega (arith, ints)) (omega (arith, ints))

turned_is : (p : Point) (o : Orient)
    → oriented_point (turned o) p ≡ turned_point (oriented_point o p)
unfolding oriented_point
turned_is p R0 = refl
turned_is p R90 = refl
turned_is p R180 = refl
turned_is p R270 = same_point _ _ (omega (arith, ints)) (omega (arith, ints))
turned_is p M0 = refl
turned_is p M90 = refl
turned_is p M180 = refl
turned_is p M270 = same_point _ _ (omega (arith, ints)) (omega (arith, ints))

turns_go : {A B : Type 0} (turn : A → A) (turn' : B → B) (f : A → B)
    → ((a : A) → f (turn a) ≡ turn' (f a)) → (n : ℕ) (a : A)
    → f (times turn n a) ≡ times turn' n (f a)
turns_go turn turn' f g zero a = refl
turns_go turn turn' f g (suc n) a = g (times turn n a) ∙ ap turn' (turns_go turn turn' f g n a)

-- what commutes with the mirror and with the turn commutes with each orientation
orients_go : {A B : Type 0} (mirror turn : A → A) (mirror' turn' : B → B) (f : A → B)
    → ((a : A) → f (mirror a) ≡ mirror' (f a)) → ((a : A) → f (turn a) ≡ turn' (f a))
    → (o : Orient) (a : A) → f (by_orient mirror turn o a) ≡ by_orient mirror' turn' o (f a)
orients_go m t m' t' f h g o a =
    turns_go t t' f g (quarter_turns o) (if is_mirrored o then m a else a)
    ∙ ap (times t' (quarter_turns o)) (go (is_mirrored o))
  where
    go : (b : Bool) → f (if b then m a else a) ≡ (if b then m' (f a) else f a)
    go true = h a
    go false = refl

pub oriented_again : (o i : Orient) (p : Point) → oriented_point (by_orient mirrored turned o i) p
    ≡ oriented_point o (oriented_point i p)
unfolding oriented_point
oriented_again o i p =
    orients_go mirrored turned mirrored_point turned_point (λ (a : Orient). oriented_point a p)
    (mirrored_is p) (turned_is p) o i

pub again_point : (t u : Placing) (p : Point)
    → placed_point (placed_again t u) p ≡ placed_point t (placed_point u p)
unfolding placed_again
again_point t u p =
    placed-placed_point u t (placed_again t u) p (oriented_again t.orient u.orient p) refl

-- ---- boxes

-- the box between the images of a box's corners
abbrev taken : (Point → Point) → Box2 → Box2
taken f b = box_between (f (record { x = b.x0; y = b.y0 })) (f (record { x = b.x1; y = b.y1 }))

between_ordered : (p q : Point) → IsOrdered (box_between p q)
unfolding box_between
between_ordered p q = record { x = omega (arith, ints, clamps); y = omega (arith, ints, clamps) }

ruleset boxes = (arith, ints, clamps)

-- mapping boxes in this way commutes with the least boxes of points and of boxes
record Carries (f : Point → Point) : Type 0 where
  between : (p q : Point) → taken f (box_between p q) ≡ box_between (f p) (f q)
  joins : (a b : Box2) → IsOrdered a → IsOrdered b
      → taken f (joined a b) ≡ joined (taken f a) (taken f b)

stays : Carries (λ p. p)
unfolding box_between
stays = record {
  between = λ p q. same_box _ _ (omega boxes) (omega boxes) (omega boxes) (omega boxes);
  joins = λ a b h k. same_box _ _ (omega boxes) (omega boxes) (omega boxes) (omega boxes);
}

mirrors : Carries mirrored_point
unfolding box_between
mirrors = record {
  between = λ p q. same_box _ _ (omega boxes) (omega boxes) (omega boxes) (omega boxes);
  joins = λ a b h k. same_box _ _ (omega boxes) (omega boxes) (omega boxes) (omega boxes);
}

turns : Carries turned_point
unfolding box_between
turns = record {
  between = λ p q. same_box _ _ (omega boxes) (omega boxes) (omega boxes) (omega boxes);
  joins = λ a b h k. same_box _ _ (omega boxes) (omega boxes) (omega boxes) (omega boxes);
}

moves : (d : Point) → Carries (moved_point d)
unfolding box_between
moves d = record {
  between = λ p q. same_box _ _ (omega boxes) (omega boxes) (omega boxes) (omega boxes);
  joins = λ a b h k. same_box _ _ (omega boxes) (omega boxes) (omega boxes) (omega boxes);
}

then_carries : (f g : Point → Point) → Carries f → Carries g → Carries (λ p. g (f p))
then_carries f g h k = record {
  between = λ p q. sym (both (box_between p q)) ∙ ap (taken g) (h.between p q)
      ∙ k.between (f p) (f q);
  joins = λ a b o q. sym (both (joined a b)) ∙ ap (taken g) (h.joins a b o q)
      ∙ k.joins (taken f a) (taken f b) (between_ordered _ _) (between_ordered _ _)
      ∙ ap (λ c. joined c (taken g (taken f b))) (both a)
      ∙ ap (joined (taken (λ p. g (f p)) a)) (both b);
}
  where
    both : (b : Box2) → taken g (taken f b) ≡ taken (λ p. g (f p)) b
    both b = k.between (f (record { x = b.x0; y = b.y0 })) (f (record { x = b.x1; y = b.y1 }))

carries : (t : Placing) → Carries (placed_point t)
unfolding placed_point oriented_point
carries t =
    then_carries _ (moved_point t.by)
    (then_carries _ (times turned_point (quarter_turns t.orient)) (first (is_mirrored t.orient))
    (turned_by (quarter_turns t.orient)))
    (moves t.by)
  where
    first : (b : Bool) → Carries (λ p. if b then mirrored_point p else p)
    first true = mirrors
    first false = stays

    turned_by : (n : ℕ) → Carries (times turned_point n)
    turned_by zero = stays
    turned_by (suc n) = then_carries (times turned_point n) turned_point (turned_by n) turns

pub again_box : (t u : Placing) (b : Box2)
    → placed_box (placed_again t u) b ≡ placed_box t (placed_box u b)
unfolding placed_box
again_box t u b =
    let p : Point = record { x = b.x0; y = b.y0 } in
    let q : Point = record { x = b.x1; y = b.y1 } in
    rw (again_point t u p, again_point t u q)
    (sym ((carries t).between (placed_point u p) (placed_point u q)))

pub placed_ordered : (t : Placing) (b : Box2) → IsOrdered (placed_box t b)
unfolding placed_box
placed_ordered t b = between_ordered _ _

pub placed_joined : (t : Placing) (a b : Box2) → IsOrdered a → IsOrdered b
    → placed_box t (joined a b) ≡ joined (placed_box t a) (placed_box t b)
unfolding placed_box
placed_joined t a b h k = (carries t).joins a b h k

abbrev pub unmoved : Placing
unmoved = record { orient = R0; by = record { x = pos 0; y = pos 0 } }

pub unmoved_box : (b : Box2) → IsOrdered b → placed_box unmoved b ≡ b
unfolding placed_box box_between placed_point oriented_point
unmoved_box b h = same_box _ _ (omega (arith, ints, clamps)) (omega (arith, ints, clamps))
    (omega (arith, ints, clamps)) (omega (arith, ints, clamps))
