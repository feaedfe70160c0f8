-- The tests of equality are exact on the plane.
use Rattle.std.proofs.Common.{[], ◌≡◌, ℕ, Bool, ◌&&◌, ◌==◌, ◌∷◌, get_or, refl, sym, ap, ◌∙◌, Decides}
use Rattle.std.specs.Ordering.{int_eq}
use Rattle.std.specs.Cmp.Lexicographic.{pointwise, pointwise_decides}
use Rattle.std.proofs.lemmas.Bool.Decides.{Decides-and, Decides-like, Decides-eqb, Decides-int_eq}
use Rattle.mpw_geom.specs.Names.{name_eq}
use Rattle.mpw_geom.specs.declared.plane.Box2.{Box2}
use Rattle.mpw_geom.specs.declared.plane.Layer.{Layer}
use Rattle.mpw_geom.specs.declared.plane.Orient.{Orient}
use Rattle.mpw_geom.specs.declared.plane.Orient.TheVariants.{R0, R90, R180, R270, M0, M90, M180, M270}
use Rattle.mpw_geom.specs.declared.plane.Point.{Point}
use Rattle.mpw_geom.specs.declared.placing.Placing.{Placing}
use Rattle.mpw_geom.specs.Layers.{same_layer}
use Rattle.mpw_run.specs.Same.{same_point, same_box, orient_number, same_orient, same_placing}

-- The test decides whether its two values are equal.
abbrev pub Exact : {X : Type 0} → (X → X → Bool) → Type 0
Exact {X = X} test = (a b : X) → Decides (test a b) (a ≡ b)

pub names : Exact name_eq
names = pointwise_decides Decides-eqb

pub lists : {X : Type 0} (test : X → X → Bool) → Exact test → Exact (pointwise test)
lists test exact = pointwise_decides exact

-- a test that decides an equivalent statement; and tests with two parts, three, and four
pub one : {P X : Type 0} (p : Bool) → Decides p P → (P → X) → (X → P) → Decides p X
one p f to from = Decides-like p to from f

pub two : {P Q X : Type 0} (p q : Bool) → Decides p P → Decides q Q → (P → Q → X) → (X → P × Q)
    → Decides (p && q) X
two p q f g to from = one (p && q) (Decides-and p q f g) (λ h. to h.0 h.1) from

pub three : {P Q R X : Type 0} (p q r : Bool) → Decides p P → Decides q Q → Decides r R
    → (P → Q → R → X) → (X → P × Q × R) → Decides (p && (q && r)) X
three p q r f g h to from =
    one (p && (q && r)) (Decides-and p (q && r) f (Decides-and q r g h)) (λ t. to t.0 t.1.0 t.1.1)
    (λ x. let t = from x in (t.0, (t.1, t.2)))

pub four : {P Q R S X : Type 0} (p q r s : Bool) → Decides p P → Decides q Q → Decides r R → Decides s S
    → (P → Q → R → S → X) → (X → P × Q × R × S) → Decides ((p && q) && (r && s)) X
four p q r s f g h k to from =
    one ((p && q) && (r && s)) (Decides-and (p && q) (r && s) (Decides-and p q f g)
    (Decides-and r s h k)) (λ t. to t.0.0 t.0.1 t.1.0 t.1.1)
    (λ x. let t = from x in ((t.0, t.1), (t.2, t.3)))

-- ---- the plane

pub points : Exact same_point
points a b =
    two {X = a ≡ b} (int_eq a.x b.x) (int_eq a.y b.y)
    (Decides-int_eq a.x b.x) (Decides-int_eq a.y b.y)
    (λ e f. λ i. record { x = e i; y = f i })
    (λ e. (ap (λ (p : Point). p.x) e, ap (λ (p : Point). p.y) e))

pub boxes : Exact same_box
boxes a b =
    four {X = a ≡ b} (int_eq a.x0 b.x0) (int_eq a.y0 b.y0) (int_eq a.x1 b.x1) (int_eq a.y1 b.y1)
    (Decides-int_eq a.x0 b.x0) (Decides-int_eq a.y0 b.y0) (Decides-int_eq a.x1 b.x1)
    (Decides-int_eq a.y1 b.y1)
    (λ e f g h. λ i. record { x0 = e i; y0 = f i; x1 = g i; y1 = h i })
    (λ e. (
      ap (λ (p : Box2). p.x0) e,
      ap (λ (p : Box2). p.y0) e,
      ap (λ (p : Box2). p.x1) e,
      ap (λ (p : Box2). p.y1) e,
    ))

pub layers : Exact same_layer
layers a b =
    two {X = a ≡ b} (a.layer == b.layer) (a.datatype == b.datatype)
    (Decides-eqb a.layer b.layer) (Decides-eqb a.datatype b.datatype)
    (λ e f. λ i. record { layer = e i; datatype = f i })
    (λ e. (ap (λ (l : Layer). l.layer) e, ap (λ (l : Layer). l.datatype) e))

-- the orientation at an index
orient_at : ℕ → Orient
orient_at n = get_or (R0 ∷ R90 ∷ R180 ∷ R270 ∷ M0 ∷ M90 ∷ M180 ∷ M270 ∷ []) n R0

at_place : (o : Orient) → orient_at (orient_number o) ≡ o
unfolding orient_at
at_place R0 = refl
at_place R90 = refl
at_place R180 = refl
at_place R270 = refl
at_place M0 = refl
at_place M90 = refl
at_place M180 = refl
at_place M270 = refl

pub orients : Exact same_orient
orients a b =
    one {X = a ≡ b} (same_orient a b) (Decides-eqb (orient_number a) (orient_number b))
    (λ e. sym (at_place a) ∙ ap orient_at e ∙ at_place b) (λ e. ap orient_number e)

pub placings : Exact same_placing
placings a b =
    two {X = a ≡ b} (same_orient a.orient b.orient) (same_point a.by b.by)
    (orients a.orient b.orient) (points a.by b.by)
    (λ e f. λ i. record { orient = e i; by = f i })
    (λ e. (ap (λ (p : Placing). p.orient) e, ap (λ (p : Placing). p.by) e))
