-- A path that is mirrored, turned or displaced.
use Rattle.std.proofs.Common.{◌≡◌, ◌⊎◌, inl, inr, refl, sym, ◌∙◌, ap, ◌<ℤ◌, ℤ, pos, neg_ℤ, ◌+ℤ◌, Bool, true, false, not, ◌&&◌, ◌||◌, arith, List, [], ◌∷◌, map}
use Rattle.std.specs.Prelude.{int_div}
use Rattle.std.specs.Ordering.{int_eq}
use Rattle.std.proofs.lemmas.Int.{ints}
use Rattle.std.proofs.lemmas.Bool.{and_parts, true≢false}
use Rattle.std.proofs.lemmas.Bool.Decides.{Decides-int_eq}
use Rattle.mpw_geom.proofs.Boxes.{same_box}
use Rattle.mpw_geom.specs.declared.plane.Box2.{Box2}
use Rattle.mpw_geom.specs.declared.plane.Point.{Point}
use Rattle.mpw_geom.specs.declared.plane.Orient.{Orient}
use Rattle.mpw_geom.specs.declared.placing.Placing.{Placing}
use Rattle.mpw_geom.specs.Plane.{Square, any_has_square, has_square}
use Rattle.mpw_geom.specs.Placing.{mirrored_point, mirrored_square, turned_point, turned_square, moved_point, moved_square, oriented_point, oriented_square, placed_point, placed_square}
use Rattle.mpw_geom.proofs.Tests.{same_squares, same_tests}
use Rattle.mpw_structures.specs.declared.element.Path.{Path}
use Rattle.mpw_structures.specs.Element.{each_step, is_segment}
use Rattle.mpw_shapes.specs.Path.{wire_box, wire_boxes, path_has}
use Rattle.mpw_shapes.proofs.Counts.{cases_lt_z}
use Rattle.mpw_shapes.proofs.Orientations.{each_orientation}
use Rattle.mpw_shapes.proofs.Wires.{wire_right, wire_left, wire_up, wire_down}

-- ---- boxes

abbrev mirrored_box : Box2 → Box2
mirrored_box b = record { x0 = b.x0; y0 = neg_ℤ b.y1; x1 = b.x1; y1 = neg_ℤ b.y0 }

abbrev turned_box : Box2 → Box2
turned_box b = record { x0 = neg_ℤ b.y1; y0 = b.x0; x1 = neg_ℤ b.y0; y1 = b.x1 }

abbrev moved_box : Point → Box2 → Box2
moved_box d b = record { x0 = b.x0 +ℤ d.x; y0 = b.y0 +ℤ d.y; x1 = b.x1 +ℤ d.x; y1 = b.y1 +ℤ d.y }

mirrored_box_has : (b : Box2) (s : Square)
    → has_square (mirrored_box b) (mirrored_square s) ≡ has_square b s
mirrored_box_has b s =
    same_squares (mirrored_box b) b (mirrored_square s) s
    (λ h. grind (arith, ints, h))
    (λ h. grind (arith, ints, h))

turned_box_has : (b : Box2) (s : Square)
    → has_square (turned_box b) (turned_square s) ≡ has_square b s
turned_box_has b s =
    same_squares (turned_box b) b (turned_square s) s
    (λ h. grind (arith, ints, h))
    (λ h. grind (arith, ints, h))

moved_box_has : (d : Point) (b : Box2) (s : Square)
    → has_square (moved_box d b) (moved_square d s) ≡ has_square b s
moved_box_has d b s =
    same_squares (moved_box d b) b (moved_square d s) s
    (λ h. grind (arith, ints, h))
    (λ h. grind (arith, ints, h))

-- ---- segments

-- the four directions of a segment
data Direction (p q : Point) : Type 0 where
  right : p.y ≡ q.y → p.x <ℤ q.x → Direction p q
  left : p.y ≡ q.y → q.x <ℤ p.x → Direction p q
  up : p.x ≡ q.x → p.y <ℤ q.y → Direction p q
  down : p.x ≡ q.x → q.y <ℤ p.y → Direction p q

apart : (a b : ℤ) → int_eq a b ≡ false → (a <ℤ b) ⊎ (b <ℤ a)
apart a b h =
    elim (cases_lt_z a b) [
      | inl lt ↦ inl lt
      | inr le ↦
          elim (cases_lt_z b a) [
            | inl gt ↦ inr gt
            | inr ge ↦ absurd (true≢false (sym ((Decides-int_eq a b).1 (omega (arith, ints))) ∙ h))
          ]
    ]

direction : (p q : Point) → is_segment p q ≡ true → Direction p q
direction p q h = by_tests p q (int_eq p.x q.x) (int_eq p.y q.y) refl refl h
  where
    by_tests : (p q : Point) (a b : Bool) → int_eq p.x q.x ≡ a → int_eq p.y q.y ≡ b
        → ((a || b) && not (a && b)) ≡ true → Direction p q
    by_tests p q true true e f h = absurd (true≢false (sym h))
    by_tests p q true false e f h =
        elim (apart p.y q.y f) [
          | inl lt ↦ up ((Decides-int_eq p.x q.x).0 e) lt
          | inr gt
              ↦ down ((Decides-int_eq p.x q.x).0 e) gt
        ]
    by_tests p q false true e f h =
        elim (apart p.x q.x e) [
          | inl lt ↦ right ((Decides-int_eq p.y q.y).0 f) lt
          | inr gt
              ↦ left ((Decides-int_eq p.y q.y).0 f) gt
        ]
    by_tests p q false false e f h = absurd (true≢false (sym h))

mirrored_wire : (half a b : ℤ) (p q : Point) → Direction p q
    → wire_box half a b (mirrored_point p) (mirrored_point q) ≡ mirrored_box (wire_box half a b p q)
mirrored_wire half a b p q (right e h) =
    rw (
      wire_right half a b p q e h,
      wire_right half a b (mirrored_point p) (mirrored_point q)
          (ap neg_ℤ e) h,
    ) (same_box _ _ refl (omega (arith, ints)) refl (omega (arith, ints)))
mirrored_wire half a b p q (left e h) =
    rw (
      wire_left half a b p q e (omega (arith, ints)),
      wire_left half a b (mirrored_point p)
          (mirrored_point q) (ap neg_ℤ e) (omega (arith, ints)),
    )
    (same_box _ _ refl (omega (arith, ints)) refl (omega (arith, ints)))
mirrored_wire half a b p q (up e h) =
    rw (
      wire_up half a b p q (λ k. omega (arith, ints)) h,
      wire_down half a b (mirrored_point p)
          (mirrored_point q) (λ k. omega (arith, ints)) (omega (arith, ints)),
    )
    (same_box _ _ refl (omega (arith, ints)) refl (omega (arith, ints)))
mirrored_wire half a b p q (down e h) =
    rw (
      wire_down half a b p q (λ k. omega (arith, ints)) (omega (arith, ints)),
      wire_up half a b (mirrored_point p) (mirrored_point q) (λ k. omega (arith, ints))
          (omega (arith, ints)),
    ) (same_box _ _ refl (omega (arith, ints)) refl (omega (arith, ints)))

turned_wire : (half a b : ℤ) (p q : Point) → Direction p q
    → wire_box half a b (turned_point p) (turned_point q) ≡ turned_box (wire_box half a b p q)
turned_wire half a b p q (right e h) =
    rw (
      wire_right half a b p q e h,
      wire_up half a b (turned_point p) (turned_point q)
          (λ k. omega (arith, ints)) h,
    ) (same_box _ _ (omega (arith, ints)) refl (omega (arith, ints))
    refl)
turned_wire half a b p q (left e h) =
    rw (
      wire_left half a b p q e (omega (arith, ints)),
      wire_down half a b (turned_point p)
          (turned_point q) (λ k. omega (arith, ints)) (omega (arith, ints)),
    )
    (same_box _ _ (omega (arith, ints)) refl (omega (arith, ints)) refl)
turned_wire half a b p q (up e h) =
    rw (
      wire_up half a b p q (λ k. omega (arith, ints)) h,
      wire_left half a b (turned_point p)
          (turned_point q) e (omega (arith, ints)),
    )
    (same_box _ _ (omega (arith, ints)) refl (omega (arith, ints)) refl)
turned_wire half a b p q (down e h) =
    rw (
      wire_down half a b p q (λ k. omega (arith, ints)) (omega (arith, ints)),
      wire_right half a b (turned_point p) (turned_point q) e (omega (arith, ints)),
    )
    (same_box _ _ (omega (arith, ints)) refl (omega (arith, ints)) refl)

moved_wire : (d : Point) (half a b : ℤ) (p q : Point) → Direction p q
    → wire_box half a b (moved_point d p) (moved_point d q) ≡ moved_box d (wire_box half a b p q)
moved_wire d half a b p q (right e h) =
    rw (
      wire_right half a b p q e h,
      wire_right half a b (moved_point d p) (moved_point d q)
          (omega (arith, ints)) (omega (arith, ints)),
    )
    (same_box _ _ (omega (arith, ints)) (omega (arith, ints)) (omega (arith, ints))
    (omega (arith, ints)))
moved_wire d half a b p q (left e h) =
    rw (
      wire_left half a b p q e (omega (arith, ints)),
      wire_left half a b (moved_point d p)
          (moved_point d q) (omega (arith, ints)) (omega (arith, ints)),
    )
    (same_box _ _ (omega (arith, ints)) (omega (arith, ints)) (omega (arith, ints))
    (omega (arith, ints)))
moved_wire d half a b p q (up e h) =
    rw (
      wire_up half a b p q (λ k. omega (arith, ints)) h,
      wire_up half a b (moved_point d p)
          (moved_point d q) (λ k. omega (arith, ints)) (omega (arith, ints)),
    )
    (same_box _ _ (omega (arith, ints)) (omega (arith, ints)) (omega (arith, ints))
    (omega (arith, ints)))
moved_wire d half a b p q (down e h) =
    rw (
      wire_down half a b p q (λ k. omega (arith, ints)) (omega (arith, ints)),
      wire_down half a b (moved_point d p) (moved_point d q) (λ k. omega (arith, ints))
          (omega (arith, ints)),
    ) (same_box _ _ (omega (arith, ints)) (omega (arith, ints))
    (omega (arith, ints)) (omega (arith, ints)))

-- ---- a map of points and a map of squares that belong together on wires

record Carries (f : Point → Point) (g : Square → Square) : Type 0 where
  wires : (half a b : ℤ) (p q : Point) (s : Square) → is_segment p q ≡ true
      → has_square (wire_box half a b (f p) (f q)) (g s) ≡ has_square (wire_box half a b p q) s
  segments : (p q : Point) → is_segment p q ≡ true → is_segment (f p) (f q) ≡ true

same_eq : (a b c d : ℤ) → (a ≡ b → c ≡ d) → (c ≡ d → a ≡ b) → int_eq a b ≡ int_eq c d
same_eq a b c d f g =
    same_tests (int_eq a b) (int_eq c d)
    (λ h. (Decides-int_eq c d).1 (f ((Decides-int_eq a b).0 h)))
    (λ h. (Decides-int_eq a b).1 (g ((Decides-int_eq c d).0 h)))

turned_about : (a b : Bool) → ((a || b) && not (a && b)) ≡ ((b || a) && not (b && a))
turned_about true true = refl
turned_about true false = refl
turned_about false true = refl
turned_about false false = refl

turn_carries : Carries turned_point turned_square
turn_carries = record {
  wires = λ half a b p q s h. ap (λ (x : Box2). has_square x (turned_square s))
      (turned_wire half a b p q (direction p q h)) ∙ turned_box_has (wire_box half a b p q) s;
  segments = λ p q h. rw (same_eq (neg_ℤ p.y) (neg_ℤ q.y) p.y q.y (λ k. omega (arith, ints))
      (λ k. ap neg_ℤ k)) (turned_about (int_eq p.y q.y) (int_eq p.x q.x) ∙ h);
}

mirror_carries : Carries mirrored_point mirrored_square
mirror_carries = record {
  wires = λ half a b p q s h. ap (λ (x : Box2). has_square x (mirrored_square s))
      (mirrored_wire half a b p q (direction p q h)) ∙ mirrored_box_has (wire_box half a b p q) s;
  segments = λ p q h. rw (same_eq (neg_ℤ p.y) (neg_ℤ q.y) p.y q.y (λ k. omega (arith, ints))
      (λ k. ap neg_ℤ k)) h;
}

move_carries : (d : Point) → Carries (moved_point d) (moved_square d)
move_carries d = record {
  wires = λ half a b p q s h. ap (λ (x : Box2). has_square x (moved_square d s))
      (moved_wire d half a b p q (direction p q h)) ∙ moved_box_has d (wire_box half a b p q) s;
  segments = λ p q h. rw (
    same_eq (p.x +ℤ d.x) (q.x +ℤ d.x) p.x q.x (λ k. omega (arith, ints))
        (λ k. omega (arith, ints)),
    same_eq (p.y +ℤ d.y) (q.y +ℤ d.y) p.y q.y
        (λ k. omega (arith, ints)) (λ k. omega (arith, ints)),
  ) h;
}

nothing_carries : Carries (λ p. p) (λ s. s)
nothing_carries = record {
  wires = λ half a b p q s h. refl;
  segments = λ p q h. h;
}

then_carries : (f f' : Point → Point) (g g' : Square → Square) → Carries f g → Carries f' g'
    → Carries (λ p. f' (f p)) (λ s. g' (g s))
then_carries f f' g g' a b = record {
  wires = λ half x y p q s h. b.wires half x y (f p) (f q) (g s) (a.segments p q h)
      ∙ a.wires half x y p q s h;
  segments = λ p q h. b.segments (f p) (f q) (a.segments p q h);
}

orient_carries : (o : Orient) → Carries (oriented_point o) (oriented_square o)
orient_carries o =
    each_orientation Carries nothing_carries then_carries mirror_carries turn_carries o

wires_carried : (f : Point → Point) (g : Square → Square) → Carries f g
    → (half before end : ℤ) (ps : List Point) (s : Square) → each_step is_segment ps ≡ true
    → any_has_square (wire_boxes half before end (map f ps)) (g s) ≡ any_has_square
    (wire_boxes half before end ps) s
unfolding wire_boxes any_has_square
wires_carried f g c half before end [] s h = refl
wires_carried f g c half before end (p ∷ []) s h = refl
wires_carried f g c half before end (p ∷ q ∷ []) s h =
    let k = and_parts (is_segment p q) true h in
    ap (λ (b : Bool). b || false) (c.wires half before end p q s k.0)
wires_carried f g c half before end (p ∷ q ∷ r ∷ ps) s h =
    let k = and_parts (is_segment p q) (each_step is_segment (q ∷ r ∷ ps)) h in
    rw (c.wires half before half p q s k.0, wires_carried f g c half half end (q ∷ r ∷ ps) s k.1)

pub placed_path : (t : Placing) (path : Path) (s : Square) → each_step is_segment path.points ≡ true
    → path_has (record path { points = map (placed_point t) path.points }) (placed_square t s)
    ≡ path_has path s
unfolding placed_point placed_square path_has
placed_path t path s h =
    wires_carried (placed_point t) (placed_square t)
    (then_carries (oriented_point t.orient) (moved_point t.by) (oriented_square t.orient)
    (moved_square t.by) (orient_carries t.orient) (move_carries t.by))
    (int_div path.width (pos 2)) path.begin path.end path.points s h
