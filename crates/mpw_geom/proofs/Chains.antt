-- Placings in sequence.
use Rattle.std.proofs.Common.{◌≡◌, refl, sym, ◌∙◌, ap, ℕ, zero, suc, arith}
use Rattle.std.proofs.lemmas.Int.{ints}
use Rattle.mpw_geom.specs.declared.plane.Point.{Point}
use Rattle.mpw_geom.specs.declared.plane.Orient.{Orient}
use Rattle.mpw_geom.specs.declared.plane.Orient.TheVariants.{R0, R90, R180, R270, M0, M90, M180, M270}
use Rattle.mpw_geom.specs.declared.placing.Placing.{Placing}
use Rattle.mpw_geom.specs.Plane.{Square}
use Rattle.mpw_geom.specs.Placing.{by_orient, times, mirrored_point, mirrored_square, turned_point, turned_square, moved_point, moved_square, oriented_point, oriented_square, placed_point, placed_square}

pub same_point : (p q : Point) → p.x ≡ q.x → p.y ≡ q.y → p ≡ q
same_point p q e f =
    let h : ◌≡◌ {A = Point} (record { x = p.x; y = p.y }) (record { x = q.x; y = q.y }) = cc in h

pub same_square : (s t : Square) → s.column ≡ t.column → s.row ≡ t.row → s ≡ t
same_square s t e f =
    let h : ◌≡◌ {A = Square} (record { column = s.column; row = s.row })
    (record { column = t.column; row = t.row }) = cc in h

-- an operation `by` a point that commutes with the mirror and the turn commutes with each orientation
turns_carry : {A : Type 0} (turn : A → A) (by : Point → A → A)
    → ((d : Point) (a : A) → turn (by d a) ≡ by (turned_point d) (turn a))
    → (n : ℕ) (d : Point) (a : A) → times turn n (by d a) ≡ by (times turned_point n d)
    (times turn n a)
turns_carry turn by g zero d a = refl
turns_carry turn by g (suc n) d a =
    ap turn (turns_carry turn by g n d a) ∙ g (times turned_point n d) (times turn n a)

oriented_carries : {A : Type 0} (mirror turn : A → A) (by : Point → A → A)
    → ((d : Point) (a : A) → mirror (by d a) ≡ by (mirrored_point d) (mirror a))
    → ((d : Point) (a : A) → turn (by d a) ≡ by (turned_point d) (turn a))
    → (o : Orient) (d : Point) (a : A)
    → by_orient mirror turn o (by d a) ≡ by (by_orient mirrored_point turned_point o d)
    (by_orient mirror turn o a)
oriented_carries m t by f g R0 d a = refl
oriented_carries m t by f g R90 d a = turns_carry t by g 1 d a
oriented_carries m t by f g R180 d a = turns_carry t by g 2 d a
oriented_carries m t by f g R270 d a = turns_carry t by g 3 d a
oriented_carries m t by f g M0 d a = f d a
oriented_carries m t by f g M90 d a =
    ap (times t 1) (f d a) ∙ turns_carry t by g 1 (mirrored_point d) (m a)
oriented_carries m t by f g M180 d a =
    ap (times t 2) (f d a) ∙ turns_carry t by g 2 (mirrored_point d) (m a)
oriented_carries m t by f g M270 d a =
    ap (times t 3) (f d a) ∙ turns_carry t by g 3 (mirrored_point d) (m a)

mirrored-moved : (d p : Point) → mirrored_point (moved_point d p) ≡ moved_point (mirrored_point d)
    (mirrored_point p)
mirrored-moved d p = same_point _ _ refl (omega (arith, ints))

turned-moved : (d p : Point) → turned_point (moved_point d p) ≡ moved_point (turned_point d)
    (turned_point p)
turned-moved d p = same_point _ _ (omega (arith, ints)) refl

mirrored-moved_square : (d : Point) (s : Square)
    → mirrored_square (moved_square d s) ≡ moved_square (mirrored_point d) (mirrored_square s)
mirrored-moved_square d s = same_square _ _ refl (omega (arith, ints))

turned-moved_square : (d : Point) (s : Square)
    → turned_square (moved_square d s) ≡ moved_square (turned_point d) (turned_square s)
turned-moved_square d s = same_square _ _ (omega (arith, ints)) refl

moved-moved : (d e p : Point) → moved_point (moved_point d e) p ≡ moved_point d (moved_point e p)
moved-moved d e p = same_point _ _ (omega (arith, ints)) (omega (arith, ints))

moved-moved_square : (d e : Point) (s : Square)
    → moved_square (moved_point d e) s ≡ moved_square d (moved_square e s)
moved-moved_square d e s = same_square _ _ (omega (arith, ints)) (omega (arith, ints))

pub placed-placed_point : (a b c : Placing) (p : Point)
    → oriented_point c.orient p ≡ oriented_point b.orient (oriented_point a.orient p)
    → c.by ≡ placed_point b a.by → placed_point c p ≡ placed_point b (placed_point a p)
unfolding placed_point oriented_point
placed-placed_point a b c p f e =
    let q = oriented_point a.orient p in
    let r = oriented_point b.orient q in
    let d = oriented_point b.orient a.by in
    let carried : oriented_point b.orient (moved_point a.by q) ≡ moved_point d r =
    oriented_carries mirrored_point turned_point moved_point mirrored-moved turned-moved
    b.orient a.by q in
    let e' : c.by ≡ moved_point b.by d = e in
    ap (moved_point c.by) f
    ∙ ap (λ (d : Point). moved_point d r) e'
    ∙ moved-moved b.by d r
    ∙ ap (moved_point b.by) (sym carried)

pub placed-placed_square : (a b c : Placing) (s : Square)
    → oriented_square c.orient s ≡ oriented_square b.orient (oriented_square a.orient s)
    → c.by ≡ placed_point b a.by → placed_square c s ≡ placed_square b (placed_square a s)
unfolding placed_point placed_square oriented_point oriented_square
placed-placed_square a b c s f e =
    let q = oriented_square a.orient s in
    let r = oriented_square b.orient q in
    let d = oriented_point b.orient a.by in
    let carried : oriented_square b.orient (moved_square a.by q) ≡ moved_square d r =
    oriented_carries mirrored_square turned_square moved_square mirrored-moved_square
    turned-moved_square b.orient a.by q in
    let e' : c.by ≡ moved_point b.by d = e in
    ap (moved_square c.by) f
    ∙ ap (λ (d : Point). moved_square d r) e'
    ∙ moved-moved_square b.by d r
    ∙ ap (moved_square b.by) (sym carried)
