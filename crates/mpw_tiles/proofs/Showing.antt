-- The squares of placed boxes and shapes.
use Rattle.std.proofs.Common.{◌≡◌, ℕ, zero, suc, ◌+◌, ◌<◌, Bool, true, false, if◌then◌else◌, ◌||◌, List, [], ◌∷◌, ◌++◌, length, get_or, take, Option, Some, None, ◌⊎◌, inl, inr, refl, sym, subst, ap, ◌∙◌, arith}
use Rattle.std.specs.Prelude.{◌↔◌, pos, neg_ℤ, ◌-ℤ◌}
use Rattle.std.proofs.lemmas.Bool.{false≢true}
use Rattle.std.proofs.lemmas.Int.{ints}
use Rattle.std.proofs.lemmas.List.{append_assoc}
use Rattle.std.proofs.lemmas.List.Folds.{list_any_more}
use Rattle.mpw_region.proofs.Held.{Held-push_left, Held-push_new, Held-push_cases}
use Rattle.mpw_geom.specs.declared.plane.Box2.{Box2}
use Rattle.mpw_geom.specs.declared.plane.Layer.{Layer}
use Rattle.mpw_geom.proofs.Chains.{same_square}
use Rattle.mpw_geom.specs.declared.placing.Placing.{Placing}
use Rattle.mpw_geom.specs.Plane.{Square, has_square, any_has_square}
use Rattle.mpw_geom.specs.Placing.{is_mirrored, quarter_turns, times, mirrored_square, turned_square, moved_square, oriented_square, placed_square}
use Rattle.mpw_shapes.specs.Element.{element_has}
use Rattle.mpw_hier.specs.Items.{Item}
use Rattle.mpw_tiles.specs.declared.listing.Rectangle.{Rectangle}
use Rattle.mpw_tiles.specs.Plan.{Tiling}
use Rattle.mpw_tiles.specs.Listing.{HasSquareOf}
use Rattle.mpw_tiles.specs.Internal.Listing.{HasPlacedSquare}
use Rattle.mpw_tiles.specs.declared.place.PlacedShape.{PlacedShape}
use Rattle.mpw_tiles.specs.Placed.{IsSquareInPlane, IsShapeOf, IsRectangleOf, WindowsLieInPlane}
use Rattle.mpw_tiles.proofs.Added.{AgreeInWindows, either}
use Rattle.mpw_tiles.specs.Shown.{layer_of, ShowsSquare, IsShown}

-- ---- the square that a placing takes to a square

pub record Before (t : Placing) (s : Square) : Type 0 where
  pub square : Square
  pub placed : placed_square t square ≡ s

unturned : (n : ℕ) (s : Square) → (q : Square) × (times turned_square n q ≡ s)
unturned zero s = (s, refl)
unturned (suc n) s =
    let q = unturned n (record { column = s.row; row = neg_ℤ s.column -ℤ pos 1 }) in (
      q.0,
      ap turned_square q.1 ∙ same_square _ _ (omega (arith, ints)) (omega (arith, ints)),
    )

unmirrored : (b : Bool) (s : Square)
    → (q : Square) × ((if b then mirrored_square q else q) ≡ s)
unmirrored true s =
    (mirrored_square s, same_square _ _ (omega (arith, ints)) (omega (arith, ints)))
unmirrored false s = (s, refl)

pub before : (t : Placing) (s : Square) → Before t s
unfolding placed_square oriented_square
before t s =
    let turn = times turned_square (quarter_turns t.orient) in
    let q = unturned (quarter_turns t.orient)
    (record { column = s.column -ℤ t.by.x; row = s.row -ℤ t.by.y }) in
    let p = unmirrored (is_mirrored t.orient) q.0 in record {
      square = p.0;
      placed =
          ap (λ (x : Square). moved_square t.by (turn x)) p.1 ∙ ap (moved_square t.by) q.1
          ∙ same_square _ _ (omega (arith, ints)) (omega (arith, ints));
    }

-- ---- boxes

or_left : (a b : Bool) → a ≡ true → (a || b) ≡ true
or_left a b e = rw e refl

or_right : (a b : Bool) → b ≡ true → (a || b) ≡ true
or_right true b e = refl
or_right false b e = e

or_cases : (a b : Bool) → (a || b) ≡ true → (a ≡ true) ⊎ (b ≡ true)
or_cases true b e = inl refl
or_cases false b e = inr e

any_more : (boxes : List Box2) (i : ℕ) (d : Box2) (s : Square) → i < length boxes
    → any_has_square (take (i + 1) boxes) s
    ≡ (any_has_square (take i boxes) s || has_square (get_or boxes i d) s)
unfolding any_has_square
any_more boxes i d s h = list_any_more (λ b. has_square b s) boxes i d h

pub no_boxes : (shape : PlacedShape) (layer : Layer) (origin : ℕ) (s : Square)
    → HasPlacedSquare [] shape layer origin s → ⊥
unfolding any_has_square
no_boxes shape layer origin s h = false≢true h.has

-- the rectangle of a box more has its placed squares in the plane
pub boxes_at : (boxes : List Box2) (i : ℕ) (d : Box2) (shape : PlacedShape) (r : Rectangle)
    → i < length boxes → IsRectangleOf shape (get_or boxes i d) r → (layer : Layer) (origin : ℕ)
    (s : Square) → IsSquareInPlane s
    → either (HasPlacedSquare (take i boxes) shape) (HasSquareOf r) layer origin s
    ↔ HasPlacedSquare (take (i + 1) boxes) shape layer origin s
boxes_at boxes i d shape r h is layer origin s plane = (to, from)
  where
    more : (q : Square) → any_has_square (take (i + 1) boxes) q
        ≡ (any_has_square (take i boxes) q || has_square (get_or boxes i d) q)
    more q = any_more boxes i d q h

    to : HasPlacedSquare (take i boxes) shape layer origin s ⊎ HasSquareOf r layer origin s
        → HasPlacedSquare (take (i + 1) boxes) shape layer origin s
    to (inl p) = record {
      on_layer = p.on_layer;
      of_origin = p.of_origin;
      square = p.square;
      has = more p.square ∙ or_left _ _ p.has;
      placed = p.placed;
    }
    to (inr p) =
        let b = before shape.placing s in
        let k : has_square r.area (placed_square shape.placing b.square) ≡ true =
        subst (λ (x : Square). has_square r.area x ≡ true) (sym b.placed) p.has in
        let e = is.squares b.square (subst IsSquareInPlane (sym b.placed) plane) in
        record {
          on_layer = sym is.on_layer ∙ p.on_layer;
          of_origin = sym is.of_origin ∙ p.of_origin;
          square = b.square;
          has = more b.square ∙ or_right _ _ (sym e ∙ k);
          placed = b.placed;
        }

    from : HasPlacedSquare (take (i + 1) boxes) shape layer origin s
        → HasPlacedSquare (take i boxes) shape layer origin s ⊎ HasSquareOf r layer origin s
    from p = elim (or_cases _ _ (sym (more p.square) ∙ p.has)) [
      | inl e ↦ inl (record {
        on_layer = p.on_layer;
        of_origin = p.of_origin;
        square = p.square;
        has = e;
        placed = p.placed;
      })
      | inr e ↦ inr (record {
        on_layer = is.on_layer ∙ p.on_layer;
        of_origin = is.of_origin ∙ p.of_origin;
        has = subst (λ (x : Square). has_square r.area x ≡ true) p.placed
            (is.squares p.square (subst IsSquareInPlane (sym p.placed) plane) ∙ e);
      })
    ]

pub boxes_more : (plan : Tiling) (boxes : List Box2) (i : ℕ) (d : Box2) (shape : PlacedShape)
    (r : Rectangle) → WindowsLieInPlane plan → i < length boxes
    → IsRectangleOf shape (get_or boxes i d) r
    → AgreeInWindows plan (either (HasPlacedSquare (take i boxes) shape) (HasSquareOf r))
    (HasPlacedSquare (take (i + 1) boxes) shape)
boxes_more plan boxes i d shape r plane h is tile s layer origin u w =
    boxes_at boxes i d shape r h is layer origin s (plane tile s u w)

-- ---- shapes

same_layer : (a b : Layer) → (let some : Option Layer = Some a in some) ≡ Some b → a ≡ b
same_layer a b e = cc

-- the boxes of a shape, placed, are the shape's squares
pub boxes_show : (item : Item) (boxes : List Box2) (shape : PlacedShape) → IsShapeOf item shape
    → ((s : Square) → any_has_square boxes s ≡ element_has item.element s)
    → (layer : Layer) (origin : ℕ) (s : Square)
    → HasPlacedSquare boxes shape layer origin s ↔ ShowsSquare item layer origin s
boxes_show item boxes shape is same layer origin s = (
  λ p. record {
    on_layer = is.on_layer ∙ ap Some p.on_layer;
    of_origin = sym is.of_origin ∙ p.of_origin;
    square = p.square;
    has = sym (same p.square) ∙ p.has;
    placed = ap (λ (t : Placing). placed_square t p.square) (sym is.placing) ∙ p.placed;
  },
  λ p. record {
    on_layer = same_layer shape.layer layer (sym is.on_layer ∙ p.on_layer);
    of_origin = is.of_origin ∙ p.of_origin;
    square = p.square;
    has = same p.square ∙ p.has;
    placed = ap (λ (t : Placing). placed_square t p.square) is.placing ∙ p.placed;
  },
)

-- what has no layer has no squares
pub none_shown : (item : Item) → layer_of item.element ≡ None → (layer : Layer) (origin : ℕ)
    (s : Square) → ShowsSquare item layer origin s → ⊥
none_shown item e layer origin s h = no_layer layer (sym e ∙ h.on_layer)
  where
    no_layer : (l : Layer) → (let none : Option Layer = None in none) ≡ Some l → ⊥
    no_layer l e = cc

-- ---- lists of shapes

pub shown_more : (done : List Item) (item : Item) (layer : Layer) (origin : ℕ) (s : Square)
    → either (IsShown done) (ShowsSquare item) layer origin s
    ↔ IsShown (done ++ item ∷ []) layer origin s
shown_more done item layer origin s = (
  λ p. elim p [
    | inl l ↦ Held-push_left (λ (i : Item). ShowsSquare i layer origin s) done item l
    | inr q ↦ Held-push_new (λ (i : Item). ShowsSquare i layer origin s) done item q
  ],
  λ l. Held-push_cases (λ (i : Item). ShowsSquare i layer origin s) done item l,
)

-- a walk gave one item more
pub given_more : (done rest whole all : List Item) (item : Item) → whole ≡ item ∷ rest
    → done ++ whole ≡ all → (done ++ item ∷ []) ++ rest ≡ all
given_more done rest whole all item e h =
    append_assoc done (item ∷ []) rest ∙ ap (λ items. done ++ items) (sym e) ∙ h
