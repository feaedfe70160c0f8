-- The mirror, the quarter turn and a displacement, on points, squares and boxes.
use Rattle.std.proofs.Common.{◌≡◌, ◌≤ℤ◌, Bool, refl, ℕ, zero, suc, ℤ, pos, ◌-ℤ◌, neg_ℤ, arith, ◌∙◌}
use Rattle.std.proofs.lemmas.Int.{ints, clamps}
use Rattle.mpw_geom.specs.declared.plane.Box2.{Box2}
use Rattle.mpw_geom.specs.declared.plane.Point.{Point}
use Rattle.mpw_geom.specs.declared.plane.Orient.{Orient}
use Rattle.mpw_geom.specs.declared.placing.Placing.{Placing}
use Rattle.mpw_geom.specs.declared.plane.Orient.TheVariants.{R0, R90, R180, R270, M0, M90, M180, M270}
use Rattle.mpw_geom.specs.Plane.{Square, box_between, has_point, has_square, closed_square}
use Rattle.mpw_geom.specs.Placing.{by_orient, times, mirrored_point, mirrored_square, turned_point, turned_square, moved_point, moved_square, oriented_point, oriented_square, placed_point, placed_square}
use Rattle.mpw_geom.proofs.Tests.{same_points, same_squares}

pub negated_twice : (z : ℤ) → neg_ℤ (neg_ℤ z) ≡ z
negated_twice z = omega (arith, ints)

-- mirroring a row twice gives the row
pub mirrored_row : (j : ℤ) → neg_ℤ (neg_ℤ j -ℤ pos 1) -ℤ pos 1 ≡ j
mirrored_row j = omega (arith, ints)

pub ruleset negations = (negated_twice, mirrored_row)

mirrored_closed : (s : Square) (p : Point)
    → has_point (closed_square (mirrored_square s)) (mirrored_point p) ≡ has_point (closed_square s)
    p
unfolding closed_square
mirrored_closed s p =
    same_points (closed_square (mirrored_square s)) (closed_square s) (mirrored_point p) p
    (λ h. grind (arith, ints, clamps, h))
    (λ h. grind (arith, ints, clamps, h))

turned_closed : (s : Square) (p : Point)
    → has_point (closed_square (turned_square s)) (turned_point p) ≡ has_point (closed_square s) p
unfolding closed_square
turned_closed s p =
    same_points (closed_square (turned_square s)) (closed_square s) (turned_point p) p
    (λ h. grind (arith, ints, clamps, h))
    (λ h. grind (arith, ints, clamps, h))

moved_closed : (d : Point) (s : Square) (p : Point)
    → has_point (closed_square (moved_square d s)) (moved_point d p) ≡ has_point (closed_square s) p
unfolding closed_square
moved_closed d s p =
    same_points (closed_square (moved_square d s)) (closed_square s) (moved_point d p) p
    (λ h. grind (arith, ints, clamps, h))
    (λ h. grind (arith, ints, clamps, h))

turns_keep : {A B : Type 0} (turn : A → A) (turn' : B → B) (P : A → A → B → Bool)
    → ((a c : A) (b : B) → P (turn a) (turn c) (turn' b) ≡ P a c b) → (n : ℕ) (a c : A) (b : B)
    → P (times turn n a) (times turn n c) (times turn' n b) ≡ P a c b
turns_keep turn turn' P g zero a c b = refl
turns_keep turn turn' P g (suc n) a c b =
    g (times turn n a) (times turn n c) (times turn' n b) ∙ turns_keep turn turn' P g n a c b

-- what the mirror and the turn preserve, each orientation preserves
oriented_keeps : {A B : Type 0} (mirror turn : A → A) (mirror' turn' : B → B) (P : A → A → B → Bool)
    → ((a c : A) (b : B) → P (mirror a) (mirror c) (mirror' b) ≡ P a c b)
    → ((a c : A) (b : B) → P (turn a) (turn c) (turn' b) ≡ P a c b) → (o : Orient) (a c : A) (b : B)
    → P (by_orient mirror turn o a) (by_orient mirror turn o c) (by_orient mirror' turn' o b)
    ≡ P a c b
oriented_keeps m t m' t' P f g R0 a c b = refl
oriented_keeps m t m' t' P f g R90 a c b = turns_keep t t' P g 1 a c b
oriented_keeps m t m' t' P f g R180 a c b = turns_keep t t' P g 2 a c b
oriented_keeps m t m' t' P f g R270 a c b = turns_keep t t' P g 3 a c b
oriented_keeps m t m' t' P f g M0 a c b = f a c b
oriented_keeps m t m' t' P f g M90 a c b = turns_keep t t' P g 1 (m a) (m c) (m' b) ∙ f a c b
oriented_keeps m t m' t' P f g M180 a c b = turns_keep t t' P g 2 (m a) (m c) (m' b) ∙ f a c b
oriented_keeps m t m' t' P f g M270 a c b = turns_keep t t' P g 3 (m a) (m c) (m' b) ∙ f a c b

pub placed_closed : (t : Placing) (s : Square) (p : Point)
    → has_point (closed_square (placed_square t s)) (placed_point t p) ≡ has_point (closed_square s)
    p
unfolding placed_point placed_square oriented_point oriented_square
placed_closed t s p =
    moved_closed t.by (oriented_square t.orient s) (oriented_point t.orient p)
    ∙ oriented_keeps mirrored_square turned_square mirrored_point turned_point
    (λ s _ p. has_point (closed_square s) p) (λ s _ p. mirrored_closed s p)
    (λ s _ p. turned_closed s p) t.orient s s p

mirrored_between : (a b p : Point) → has_point (box_between (mirrored_point a) (mirrored_point b))
    (mirrored_point p) ≡ has_point (box_between a b) p
unfolding box_between
mirrored_between a b p =
    same_points (box_between (mirrored_point a) (mirrored_point b)) (box_between a b)
    (mirrored_point p) p
    (λ h. grind (arith, ints, clamps, h))
    (λ h. grind (arith, ints, clamps, h))

turned_between : (a b p : Point) → has_point (box_between (turned_point a) (turned_point b))
    (turned_point p) ≡ has_point (box_between a b) p
unfolding box_between
turned_between a b p =
    same_points (box_between (turned_point a) (turned_point b)) (box_between a b) (turned_point p) p
    (λ h. grind (arith, ints, clamps, h))
    (λ h. grind (arith, ints, clamps, h))

moved_between : (d a b p : Point) → has_point (box_between (moved_point d a) (moved_point d b))
    (moved_point d p) ≡ has_point (box_between a b) p
unfolding box_between
moved_between d a b p =
    same_points (box_between (moved_point d a) (moved_point d b)) (box_between a b)
    (moved_point d p) p
    (λ h. grind (arith, ints, clamps, h))
    (λ h. grind (arith, ints, clamps, h))

mirrored_squares : (a b : Point) (s : Square)
    → has_square (box_between (mirrored_point a) (mirrored_point b)) (mirrored_square s)
    ≡ has_square (box_between a b) s
unfolding box_between
mirrored_squares a b s =
    same_squares (box_between (mirrored_point a) (mirrored_point b)) (box_between a b)
    (mirrored_square s) s
    (λ h. grind (arith, ints, clamps, h))
    (λ h. grind (arith, ints, clamps, h))

turned_squares : (a b : Point) (s : Square)
    → has_square (box_between (turned_point a) (turned_point b)) (turned_square s)
    ≡ has_square (box_between a b) s
unfolding box_between
turned_squares a b s =
    same_squares (box_between (turned_point a) (turned_point b)) (box_between a b) (turned_square s)
    s
    (λ h. grind (arith, ints, clamps, h))
    (λ h. grind (arith, ints, clamps, h))

moved_squares : (d a b : Point) (s : Square)
    → has_square (box_between (moved_point d a) (moved_point d b)) (moved_square d s)
    ≡ has_square (box_between a b) s
unfolding box_between
moved_squares d a b s =
    same_squares (box_between (moved_point d a) (moved_point d b)) (box_between a b)
    (moved_square d s) s
    (λ h. grind (arith, ints, clamps, h))
    (λ h. grind (arith, ints, clamps, h))

abbrev corner0 : Box2 → Point
corner0 b = record { x = b.x0; y = b.y0 }

abbrev corner1 : Box2 → Point
corner1 b = record { x = b.x1; y = b.y1 }

-- the box between its own corners has the same points and squares
own_points : (b : Box2) (p : Point) → b.x0 ≤ℤ b.x1 → b.y0 ≤ℤ b.y1
    → has_point (box_between (corner0 b) (corner1 b)) p ≡ has_point b p
unfolding box_between
own_points b p u v =
    same_points (box_between (corner0 b) (corner1 b)) b p p
    (λ h. grind (arith, ints, clamps, h))
    (λ h. grind (arith, ints, clamps, h))

own_squares : (b : Box2) (s : Square) → b.x0 ≤ℤ b.x1 → b.y0 ≤ℤ b.y1
    → has_square (box_between (corner0 b) (corner1 b)) s ≡ has_square b s
unfolding box_between
own_squares b s u v =
    same_squares (box_between (corner0 b) (corner1 b)) b s s
    (λ h. grind (arith, ints, clamps, h))
    (λ h. grind (arith, ints, clamps, h))

pub placed_points : (t : Placing) (b : Box2) (p : Point) → b.x0 ≤ℤ b.x1 → b.y0 ≤ℤ b.y1
    → has_point (box_between (placed_point t (corner0 b)) (placed_point t (corner1 b)))
    (placed_point t p) ≡ has_point b p
unfolding placed_point oriented_point
placed_points t b p u v =
    moved_between t.by (oriented_point t.orient (corner0 b)) (oriented_point t.orient (corner1 b))
    (oriented_point t.orient p)
    ∙ oriented_keeps mirrored_point turned_point mirrored_point turned_point
    (λ a c p. has_point (box_between a c) p) mirrored_between turned_between t.orient
    (corner0 b) (corner1 b) p
    ∙ own_points b p u v

pub placed_squares : (t : Placing) (b : Box2) (s : Square) → b.x0 ≤ℤ b.x1 → b.y0 ≤ℤ b.y1
    → has_square (box_between (placed_point t (corner0 b)) (placed_point t (corner1 b)))
    (placed_square t s) ≡ has_square b s
unfolding placed_point oriented_point placed_square oriented_square
placed_squares t b s u v =
    moved_squares t.by (oriented_point t.orient (corner0 b)) (oriented_point t.orient (corner1 b))
    (oriented_square t.orient s)
    ∙ oriented_keeps mirrored_point turned_point mirrored_square turned_square
    (λ a c s. has_square (box_between a c) s) mirrored_squares turned_squares t.orient
    (corner0 b) (corner1 b) s
    ∙ own_squares b s u v

-- the same, if the corners' coordinates are given by equations
pub placed_points_at : (t : Placing) (b : Box2) (p : Point) (x0 y0 x1 y1 : ℤ) → x0 ≡ b.x0
    → y0 ≡ b.y0 → x1 ≡ b.x1 → y1 ≡ b.y1 → b.x0 ≤ℤ b.x1 → b.y0 ≤ℤ b.y1
    → has_point (box_between (placed_point t (record { x = x0; y = y0 }))
    (placed_point t (record { x = x1; y = y1 }))) (placed_point t p) ≡ has_point b p
placed_points_at t b p x0 y0 x1 y1 e f g h u v = rw (e, f, g, h) (placed_points t b p u v)

pub placed_squares_at : (t : Placing) (b : Box2) (s : Square) (x0 y0 x1 y1 : ℤ) → x0 ≡ b.x0
    → y0 ≡ b.y0 → x1 ≡ b.x1 → y1 ≡ b.y1 → b.x0 ≤ℤ b.x1 → b.y0 ≤ℤ b.y1
    → has_square (box_between (placed_point t (record { x = x0; y = y0 }))
    (placed_point t (record { x = x1; y = y1 }))) (placed_square t s) ≡ has_square b s
placed_squares_at t b s x0 y0 x1 y1 e f g h u v = rw (e, f, g, h) (placed_squares t b s u v)
