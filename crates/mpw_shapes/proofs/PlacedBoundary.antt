-- A boundary that is mirrored, turned or displaced.
use Rattle.std.proofs.Common.{◌≡◌, inl, inr, refl, sym, ◌∙◌, ap, ℕ, ◌+◌, ℤ, ◌+ℤ◌, Bool, true, not, ◌&&◌, cond, arith, List, [], ◌∷◌, ◌++◌, map, neg_ℤ}
use Rattle.std.specs.Prelude.{◌==◌}
use Rattle.std.specs.Ordering.{int_eq}
use Rattle.std.proofs.lemmas.Bool.{and_parts, and_from, or_cases, or_left, or_right, eqb-true, eq-eqb}
use Rattle.std.proofs.lemmas.Bool.Decides.{Decides-int_eq}
use Rattle.std.proofs.lemmas.List.{map-append}
use Rattle.mpw_geom.specs.declared.plane.Point.{Point}
use Rattle.mpw_geom.specs.declared.plane.Orient.{Orient}
use Rattle.mpw_geom.specs.declared.placing.Placing.{Placing}
use Rattle.mpw_geom.specs.Plane.{Square}
use Rattle.mpw_geom.specs.Placing.{mirrored_point, mirrored_square, turned_point, turned_square, moved_point, moved_square, oriented_point, oriented_square, placed_point, placed_square}
use Rattle.mpw_geom.proofs.Tests.{same_tests}
use Rattle.mpw_structures.specs.Element.{closed, each_step, is_manhattan_step}
use Rattle.mpw_shapes.specs.Boundary.{count_steps, rises_across, upward, downward, winding, boundary_has}
use Rattle.mpw_shapes.proofs.Chains.{last_of, last_of_push}
use Rattle.mpw_shapes.proofs.Orientations.{each_orientation}
use Rattle.mpw_shapes.proofs.Whole.{winding_is}
use Rattle.mpw_shapes.proofs.PlacedSteps.{left, above, rises_by_tests, turned_by_tests, mirrored_by_tests, moved_rises, same_side, turn_bits, mirror_bits}

-- ---- chains

unfoldable corner_bit : Square → Point → ℕ
corner_bit s p = cond (above s p && left s p) 1 0

turned_step : (s : Square) (p q : Point) → is_manhattan_step p q ≡ true
    → cond (rises_across (turned_square s) (turned_point p) (turned_point q)) 1 0
    + cond (rises_across s q p) 1 0 + corner_bit s q
    ≡ cond (rises_across s p q) 1 0
    + cond (rises_across (turned_square s) (turned_point q) (turned_point p)) 1 0 + corner_bit s p
unfolding corner_bit
turned_step s p q h =
    rw (turned_by_tests s p q, turned_by_tests s q p, rises_by_tests s p q, rises_by_tests s q p)
    (turn_bits (left s p) (left s q) (above s p) (above s q) (same_side s p q h))

mirrored_step : (s : Square) (p q : Point) → is_manhattan_step p q ≡ true
    → rises_across (mirrored_square s) (mirrored_point p) (mirrored_point q) ≡ rises_across s q p
mirrored_step s p q h =
    rw (mirrored_by_tests s p q, rises_by_tests s q p)
    (mirror_bits (left s p) (left s q) (above s p) (above s q) (same_side s p q h))

turned_chain : (s : Square) (p : Point) (ps : List Point)
    → each_step is_manhattan_step (p ∷ ps) ≡ true
    → count_steps (λ p q. rises_across (turned_square s) (turned_point p) (turned_point q)) (p ∷ ps)
    + count_steps (λ p q. rises_across s q p) (p ∷ ps) + corner_bit s (last_of p ps)
    ≡ count_steps (λ p q. rises_across s p q) (p ∷ ps)
    + count_steps (λ p q. rises_across (turned_square s) (turned_point q) (turned_point p)) (p ∷ ps)
    + corner_bit s p
unfolding count_steps
turned_chain s p [] h = refl
turned_chain s p (q ∷ ps) h =
    let k = and_parts (is_manhattan_step p q) (each_step is_manhattan_step (q ∷ ps)) h in
    omega (arith, turned_chain s q ps k.1, turned_step s p q k.0)

count_alike : (a b : Point → Point → Bool) → ((p q : Point) → a p q ≡ b p q) → (ps : List Point)
    → count_steps a ps ≡ count_steps b ps
unfolding count_steps
count_alike a b f [] = refl
count_alike a b f (p ∷ []) = refl
count_alike a b f (p ∷ q ∷ ps) = rw (f p q, count_alike a b f (q ∷ ps))

-- two tests that agree on each step that passes a third give the same count
count_steps_agree : (test a b : Point → Point → Bool)
    → ((p q : Point) → test p q ≡ true → a p q ≡ b p q) → (ps : List Point)
    → each_step test ps ≡ true → count_steps a ps ≡ count_steps b ps
unfolding count_steps
count_steps_agree test a b f [] h = refl
count_steps_agree test a b f (p ∷ []) h = refl
count_steps_agree test a b f (p ∷ q ∷ ps) h =
    let k = and_parts (test p q) (each_step test (q ∷ ps)) h in
    rw (f p q k.0, count_steps_agree test a b f (q ∷ ps) k.1)

count_steps-map : (test : Point → Point → Bool) (f : Point → Point) (ps : List Point)
    → count_steps test (map f ps) ≡ count_steps (λ p q. test (f p) (f q)) ps
unfolding count_steps
count_steps-map test f [] = refl
count_steps-map test f (p ∷ []) = refl
count_steps-map test f (p ∷ q ∷ ps) = rw (count_steps-map test f (q ∷ ps))

closed-map : (f : Point → Point) (ps : List Point) → closed (map f ps) ≡ map f (closed ps)
closed-map f [] = refl
closed-map f (p ∷ ps) = sym (map-append f (p ∷ ps) (p ∷ []))

mapped_up : (f : Point → Point) (s : Square) (ps : List Point)
    → upward (map f ps) s ≡ count_steps (λ p q. rises_across s (f p) (f q)) (closed ps)
unfolding upward
mapped_up f s ps = rw (closed-map f ps) (count_steps-map (λ p q. rises_across s p q) f (closed ps))

mapped_down : (f : Point → Point) (s : Square) (ps : List Point)
    → downward (map f ps) s ≡ count_steps (λ p q. rises_across s (f q) (f p)) (closed ps)
unfolding downward
mapped_down f s ps =
    rw (closed-map f ps) (count_steps-map (λ p q. rises_across s q p) f (closed ps))

has_is : (corners : List Point) (s : Square)
    → boundary_has corners s ≡ not (upward corners s == downward corners s)
unfolding boundary_has winding
has_is corners s = rw (winding_is (upward corners s) (downward corners s))

same_has : (a b : List Point) (s t : Square)
    → (upward a s ≡ downward a s → upward b t ≡ downward b t)
    → (upward b t ≡ downward b t → upward a s ≡ downward a s) → boundary_has a s ≡ boundary_has b t
same_has a b s t f g =
    has_is a s
    ∙ ap not (same_tests (upward a s == downward a s) (upward b t == downward b t)
    (λ h. eq-eqb (upward b t) (downward b t) (f (eqb-true (upward a s) (downward a s) h)))
    (λ h. eq-eqb (upward a s) (downward a s) (g (eqb-true (upward b t) (downward b t) h))))
    ∙ sym (has_is b t)

-- ---- a map of points and a map of squares that belong together

record Carries (f : Point → Point) (g : Square → Square) : Type 0 where
  squares : (corners : List Point) (s : Square)
      → each_step is_manhattan_step (closed corners) ≡ true
      → boundary_has (map f corners) (g s) ≡ boundary_has corners s
  steps : (p q : Point) → is_manhattan_step p q ≡ true → is_manhattan_step (f p) (f q) ≡ true

turned_sums : (corners : List Point) (s : Square)
    → each_step is_manhattan_step (closed corners) ≡ true
    → upward (map turned_point corners) (turned_square s) + downward corners s ≡ upward corners s
    + downward (map turned_point corners) (turned_square s)
unfolding upward downward count_steps
turned_sums [] s h = refl
turned_sums (p ∷ ps) s h =
    let e = turned_chain s p (ps ++ p ∷ []) h in
    omega (
      arith,
      mapped_up turned_point (turned_square s) (p ∷ ps),
      mapped_down turned_point (turned_square s) (p ∷ ps),
      rw (last_of_push p ps p) at e,
    )

turned_has : (corners : List Point) (s : Square)
    → each_step is_manhattan_step (closed corners) ≡ true
    → boundary_has (map turned_point corners) (turned_square s) ≡ boundary_has corners s
turned_has corners s h =
    let e = turned_sums corners s h in
    same_has (map turned_point corners) corners (turned_square s) s (λ k. omega (arith, e, k))
    (λ k. omega (arith, e, k))

turn_carries : Carries turned_point turned_square
turn_carries = record {
  squares = λ corners s h. turned_has corners s h;
  steps = λ p q h.
      elim (or_cases (int_eq p.x q.x) (int_eq p.y q.y) h) [
        | inl e ↦ or_right (int_eq (neg_ℤ p.y) (neg_ℤ q.y)) (int_eq p.x q.x) e
        | inr e ↦ or_left (int_eq (neg_ℤ p.y) (neg_ℤ q.y)) (int_eq p.x q.x)
            ((Decides-int_eq (neg_ℤ p.y) (neg_ℤ q.y)).1 (ap neg_ℤ ((Decides-int_eq p.y q.y).0 e)))
      ];
}

mirrored_ups : (corners : List Point) (s : Square)
    → each_step is_manhattan_step (closed corners) ≡ true
    → upward (map mirrored_point corners) (mirrored_square s) ≡ downward corners s
unfolding downward
mirrored_ups corners s h =
    mapped_up mirrored_point (mirrored_square s) corners
    ∙ count_steps_agree is_manhattan_step
    (λ p q. rises_across (mirrored_square s) (mirrored_point p) (mirrored_point q))
    (λ p q. rises_across s q p) (λ p q k. mirrored_step s p q k) (closed corners) h

turned_back : (p q : Point) → is_manhattan_step p q ≡ true → is_manhattan_step q p ≡ true
turned_back p q h =
    elim (or_cases (int_eq p.x q.x) (int_eq p.y q.y) h) [
      | inl e ↦ or_left (int_eq q.x p.x) (int_eq q.y p.y)
          ((Decides-int_eq q.x p.x).1 (sym ((Decides-int_eq p.x q.x).0 e)))
      | inr e ↦ or_right (int_eq q.x p.x) (int_eq q.y p.y)
          ((Decides-int_eq q.y p.y).1 (sym ((Decides-int_eq p.y q.y).0 e)))
    ]

mirrored_downs : (corners : List Point) (s : Square)
    → each_step is_manhattan_step (closed corners) ≡ true
    → downward (map mirrored_point corners) (mirrored_square s) ≡ upward corners s
unfolding upward
mirrored_downs corners s h =
    mapped_down mirrored_point (mirrored_square s) corners
    ∙ count_steps_agree is_manhattan_step
    (λ p q. rises_across (mirrored_square s) (mirrored_point q) (mirrored_point p))
    (λ p q. rises_across s p q) (λ p q k. mirrored_step s q p (turned_back p q k))
    (closed corners) h

mirrored_has : (corners : List Point) (s : Square)
    → each_step is_manhattan_step (closed corners) ≡ true
    → boundary_has (map mirrored_point corners) (mirrored_square s) ≡ boundary_has corners s
mirrored_has corners s h =
    let u = mirrored_ups corners s h in
    let d = mirrored_downs corners s h in
    same_has (map mirrored_point corners) corners (mirrored_square s) s
    (λ k. omega (arith, u, d, k)) (λ k. omega (arith, u, d, k))

mirror_carries : Carries mirrored_point mirrored_square
mirror_carries = record {
  squares = λ corners s h. mirrored_has corners s h;
  steps = λ p q h.
      elim (or_cases (int_eq p.x q.x) (int_eq p.y q.y) h) [
        | inl e ↦ or_left (int_eq p.x q.x) (int_eq (neg_ℤ p.y) (neg_ℤ q.y)) e
        | inr e ↦ or_right (int_eq p.x q.x) (int_eq (neg_ℤ p.y) (neg_ℤ q.y))
            ((Decides-int_eq (neg_ℤ p.y) (neg_ℤ q.y)).1 (ap neg_ℤ ((Decides-int_eq p.y q.y).0 e)))
      ];
}

moved_ups : (d : Point) (corners : List Point) (s : Square)
    → upward (map (moved_point d) corners) (moved_square d s) ≡ upward corners s
unfolding upward
moved_ups d corners s =
    mapped_up (moved_point d) (moved_square d s) corners
    ∙ count_alike (λ p q. rises_across (moved_square d s) (moved_point d p) (moved_point d q))
    (λ p q. rises_across s p q) (λ p q. moved_rises d s p q) (closed corners)

moved_downs : (d : Point) (corners : List Point) (s : Square)
    → downward (map (moved_point d) corners) (moved_square d s) ≡ downward corners s
unfolding downward
moved_downs d corners s =
    mapped_down (moved_point d) (moved_square d s) corners
    ∙ count_alike (λ p q. rises_across (moved_square d s) (moved_point d q) (moved_point d p))
    (λ p q. rises_across s q p) (λ p q. moved_rises d s q p) (closed corners)

moved_has : (d : Point) (corners : List Point) (s : Square)
    → boundary_has (map (moved_point d) corners) (moved_square d s) ≡ boundary_has corners s
moved_has d corners s =
    let u = moved_ups d corners s in
    let v = moved_downs d corners s in
    same_has (map (moved_point d) corners) corners (moved_square d s) s
    (λ k. omega (arith, u, v, k)) (λ k. omega (arith, u, v, k))

move_carries : (d : Point) → Carries (moved_point d) (moved_square d)
move_carries d = record {
  squares = λ corners s h. moved_has d corners s;
  steps = λ p q h.
      elim (or_cases (int_eq p.x q.x) (int_eq p.y q.y) h) [
        | inl e ↦ or_left (int_eq (p.x +ℤ d.x) (q.x +ℤ d.x)) (int_eq (p.y +ℤ d.y) (q.y +ℤ d.y))
            ((Decides-int_eq (p.x +ℤ d.x) (q.x +ℤ d.x)).1
            (ap (λ (z : ℤ). z +ℤ d.x) ((Decides-int_eq p.x q.x).0 e)))
        | inr e ↦ or_right (int_eq (p.x +ℤ d.x) (q.x +ℤ d.x)) (int_eq (p.y +ℤ d.y) (q.y +ℤ d.y))
            ((Decides-int_eq (p.y +ℤ d.y) (q.y +ℤ d.y)).1
            (ap (λ (z : ℤ). z +ℤ d.y) ((Decides-int_eq p.y q.y).0 e)))
      ];
}

map_same : (ps : List Point) → map (λ p. p) ps ≡ ps
map_same [] = refl
map_same (p ∷ ps) = rw (map_same ps)

nothing_carries : Carries (λ p. p) (λ s. s)
nothing_carries = record {
  squares = λ corners s h. ap (λ (ps : List Point). boundary_has ps s) (map_same corners);
  steps = λ p q h. h;
}

map-map : (f g : Point → Point) (ps : List Point) → map (λ p. g (f p)) ps ≡ map g (map f ps)
map-map f g [] = refl
map-map f g (p ∷ ps) = rw (map-map f g ps)

steps-map : (f : Point → Point) → ((p q : Point) → is_manhattan_step p q ≡ true
    → is_manhattan_step (f p) (f q) ≡ true) → (ps : List Point)
    → each_step is_manhattan_step ps ≡ true → each_step is_manhattan_step (map f ps) ≡ true
steps-map f k [] h = refl
steps-map f k (p ∷ []) h = refl
steps-map f k (p ∷ q ∷ ps) h =
    let a = and_parts (is_manhattan_step p q) (each_step is_manhattan_step (q ∷ ps)) h in
    and_from (is_manhattan_step (f p) (f q)) (each_step is_manhattan_step (map f (q ∷ ps)))
    (k p q a.0) (steps-map f k (q ∷ ps) a.1)

then_carries : (f f' : Point → Point) (g g' : Square → Square) → Carries f g → Carries f' g'
    → Carries (λ p. f' (f p)) (λ s. g' (g s))
then_carries f f' g g' a b = record {
  squares = λ corners s h.
      ap (λ (ps : List Point). boundary_has ps (g' (g s))) (map-map f f' corners)
      ∙ b.squares (map f corners) (g s)
      (rw (closed-map f corners) (steps-map f a.steps (closed corners) h))
      ∙ a.squares corners s h;
  steps = λ p q h. b.steps (f p) (f q) (a.steps p q h);
}

orient_carries : (o : Orient) → Carries (oriented_point o) (oriented_square o)
orient_carries o =
    each_orientation Carries nothing_carries then_carries mirror_carries turn_carries o

pub placed_boundary : (t : Placing) (corners : List Point) (s : Square)
    → each_step is_manhattan_step (closed corners) ≡ true
    → boundary_has (map (placed_point t) corners) (placed_square t s) ≡ boundary_has corners s
unfolding placed_point placed_square
placed_boundary t corners s h =
    (then_carries (oriented_point t.orient) (moved_point t.by) (oriented_square t.orient)
    (moved_square t.by) (orient_carries t.orient) (move_carries t.by)).squares corners s h
