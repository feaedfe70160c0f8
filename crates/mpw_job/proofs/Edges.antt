-- Each pair step has a square next to its first edge.
use Rattle.std.proofs.Common.{◌≡◌, ℕ, true, List, [], Option, Some, None, inl, inr, arith, rules}
use Rattle.std.specs.Prelude.{ℤ, pos, ◌-ℤ◌, ◌≤ℤ◌, ◌<ℤ◌}
use Rattle.std.proofs.lemmas.Bool.{false≢true}
use Rattle.std.proofs.lemmas.Int.{ints}
use Rattle.mpw_geom.specs.declared.plane.Layer.{Layer}
use Rattle.mpw_geom.specs.declared.plane.Point.{Point}
use Rattle.mpw_geom.specs.declared.plane.Box2.{Box2}
use Rattle.mpw_geom.specs.Plane.{Square, has_point, closed_square}
use Rattle.mpw_geom.proofs.Tests.{test_from_PointIn}
use Rattle.mpw_deck.specs.declared.rule.Rule.{Rule}
use Rattle.mpw_deck.specs.declared.rule.Check.{Check}
use Rattle.mpw_deck.specs.declared.rule.Check.TheVariants.{Width, Space, Separation, Enclosing}
use Rattle.mpw_edges.specs.declared.run.Axis.{Axis}
use Rattle.mpw_edges.specs.declared.run.Axis.TheVariants.{V, H}
use Rattle.mpw_edges.specs.Edges.{Squares, exchanged}
use Rattle.mpw_edges.specs.Steps.{IsPairStep}
use Rattle.mpw_edges.specs.Computed.{TestDecidesPairSteps}
use Rattle.mpw_hier.specs.Items.{Item}
use Rattle.mpw_tiles.specs.Laws.{SquaresLieInExtents}
use Rattle.mpw_tiles.specs.Snapshots.{shown, shown_extent}
use Rattle.mpw_markers.specs.declared.marker.Key.{Key}
use Rattle.mpw_edges.specs.Pieces.{box_on, box_of, IsStepOn}
use Rattle.mpw_markers.specs.Markers.{line_of_key}
use Rattle.mpw_markers.specs.Book.{IsBook}
use Rattle.mpw_geom.specs.Meeting.{IsMet}
use Rattle.mpw_markers.specs.Whole.{IsMaximal}
use Rattle.mpw_job.specs.Computed.{steps_of, shown_on}
use Rattle.mpw_job.specs.Layers.{Coverage, first_squares, second_squares}
use Rattle.mpw_tiles.specs.Shown.{HasShown}
use Rattle.mpw_job.specs.Laws.{EachMarkerMeetsSome, NoShapesNoMarkers}
use Rattle.mpw_job.proofs.Tests.{step_on, rule_of}
use Rattle.mpw_job.proofs.Shapes.{tests_tell}
use Rattle.mpw_job.proofs.Flat.{flat_from, tested_from}

-- a square in the row next to the first edge
record IsBeside (P : ℤ → ℤ → Type 0) (x1 x2 j : ℤ) : Type 0 where
  at : ℤ
  held : P at j
  low : (x1 -ℤ pos 1) ≤ℤ at
  high : at ≤ℤ x1
  ahead : x1 ≤ℤ x2

beside : (P : ℤ → ℤ → Type 0) (check : Check) (distance : ℕ) (a b : Squares) (side : ℕ)
    (x1 x2 j : ℤ) → ((i j : ℤ) → a i j ≡ true → P i j) → ((i j : ℤ) → b i j ≡ true → P i j)
    → IsPairStep check distance a b side x1 x2 j → IsBeside P x1 x2 j
beside P (Width l) distance a b side x1 x2 j f g h = let s = h.0.3 in
    record {
      at = x1;
      held = f x1 j h.0.1.0;
      low = omega (arith, ints);
      high = omega (arith, ints);
      ahead = omega (arith, ints);
    }
beside P (Space l) distance a b side x1 x2 j f g h = let s = h.0.3 in
    record {
      at = x1 -ℤ pos 1;
      held = f (x1 -ℤ pos 1) j h.0.1.0;
      low = omega (arith, ints);
      high = omega (arith, ints);
      ahead = omega (arith, ints);
    }
beside P (Separation l m) distance a b side x1 x2 j f g h =
    elim h.0.1 [
      | inl q ↦ record {
        at = x1 -ℤ pos 1;
        held = f (x1 -ℤ pos 1) j q.1.0;
        low = omega (arith, ints);
        high = omega (arith, ints);
        ahead = h.0.0;
      }
      | inr q ↦ record {
        at = x1 -ℤ pos 1;
        held = g (x1 -ℤ pos 1) j q.1.0;
        low = omega (arith, ints);
        high = omega (arith, ints);
        ahead = h.0.0;
      }
    ]
beside P (Enclosing l m) distance a b side x1 x2 j f g h =
    elim h.0.1 [
      | inl q ↦ record {
        at = x1;
        held = f x1 j q.1.0;
        low = omega (arith, ints);
        high = omega (arith, ints);
        ahead = h.0.0;
      }
      | inr q ↦ record {
        at = x1 -ℤ pos 1;
        held = g (x1 -ℤ pos 1) j q.1.0;
        low = omega (arith, ints);
        high = omega (arith, ints);
        ahead = h.0.0;
      }
    ]

-- squares for which a test is true
abbrev pub IsSeen : (ℕ → Square → Type 0) → Square → Type 0
IsSeen has s = (origin : ℕ) × has origin s

abbrev pub TellsSeen : Coverage → (ℕ → Square → Type 0) → Type 0
TellsSeen on has = (layer : Layer) (i j : ℤ) → on layer i j ≡ true
    → IsSeen has (record { column = i; row = j })

seen_first : (check : Check) (on : Coverage) (has : ℕ → Square → Type 0) → TellsSeen on has
    → (i j : ℤ) → first_squares check on i j ≡ true → IsSeen has (record { column = i; row = j })
seen_first (Width l) on has tells = tells l
seen_first (Space l) on has tells = tells l
seen_first (Separation l m) on has tells = tells l
seen_first (Enclosing l m) on has tells = tells l

seen_second : (check : Check) (on : Coverage) (has : ℕ → Square → Type 0) → TellsSeen on has
    → (i j : ℤ) → second_squares check on i j ≡ true → IsSeen has (record { column = i; row = j })
seen_second (Width l) on has tells i j e = absurd (false≢true e)
seen_second (Space l) on has tells i j e = absurd (false≢true e)
seen_second (Separation l m) on has tells i j e = tells m i j e
seen_second (Enclosing l m) on has tells i j e = tells m i j e

shown_seen : (items : List Item) → TellsSeen (shown_on items) (HasShown items)
shown_seen items layer i j e =
    let p = (tests_tell items layer).shown i j e in (p.0, (layer, p.1))

-- what the box of a run touches
in_box : (b : Box2) (p : Point) → b.x0 ≤ℤ p.x → p.x ≤ℤ b.x1 → b.y0 ≤ℤ p.y → p.y ≤ℤ b.y1
    → has_point b p ≡ true
in_box b p l r d u = test_from_PointIn b p (record { left = l; right = r; bottom = d; top = u })

in_square : (s : Square) (p : Point) → s.column ≤ℤ p.x → (p.x -ℤ pos 1) ≤ℤ s.column → s.row ≤ℤ p.y
    → (p.y -ℤ pos 1) ≤ℤ s.row → has_point (closed_square s) p ≡ true
unfolding closed_square
in_square s p l r d u = test_from_PointIn (closed_square s) p
    (record { left = l; right = omega (arith, ints); bottom = d; top = omega (arith, ints) })

pub some_met : (rule : Rule) (on : Coverage) (has : ℕ → Square → Type 0) → TellsSeen on has
    → (axis : Axis) (side : ℕ) (x1 x2 y0 y1 : ℤ) → y0 <ℤ y1
    → IsStepOn rule (first_squares rule.check on) (second_squares rule.check on) axis side x1 x2 y0
    → (origin : ℕ) × IsMet has (box_on axis x1 x2 y0 y1) origin
some_met rule on has tells V side x1 x2 y0 y1 lt h =
    let k = beside (λ i j. IsSeen has (record { column = i; row = j })) rule.check rule.distance
    (first_squares rule.check on) (second_squares rule.check on) side x1 x2 y0
    (seen_first rule.check on has tells) (seen_second rule.check on has tells) h in
    let p : Point = record { x = x1; y = y0 } in
    let s : Square = record { column = k.at; row = y0 } in
    let low = k.low in
    let high = k.high in
    let ahead = k.ahead in (
      k.held.0,
      (
        s,
        k.held.1,
        (
          p,
          in_square s p high low (omega (arith, ints)) (omega (arith, ints)),
          in_box (box_on V x1 x2 y0 y1) p (omega (arith, ints)) ahead (omega (arith, ints))
              (omega (arith, ints)),
        ),
      ),
    )
some_met rule on has tells H side x1 x2 y0 y1 lt h =
    let k = beside (λ i j. IsSeen has (record { column = j; row = i })) rule.check rule.distance
    (exchanged (first_squares rule.check on)) (exchanged (second_squares rule.check on)) side
    x1 x2 y0 (λ i j e. seen_first rule.check on has tells j i e)
    (λ i j e. seen_second rule.check on has tells j i e) h in
    let p : Point = record { x = y0; y = x1 } in
    let s : Square = record { column = y0; row = k.at } in
    let low = k.low in
    let high = k.high in
    let ahead = k.ahead in (
      k.held.0,
      (
        s,
        k.held.1,
        (
          p,
          in_square s p (omega (arith, ints)) (omega (arith, ints)) high low,
          in_box (box_on H x1 x2 y0 y1) p (omega (arith, ints)) (omega (arith, ints))
              (omega (arith, ints)) ahead,
        ),
      ),
    )

key_met : TestDecidesPairSteps → (rules : List Rule) (items : List Item) (k : Key)
    → IsMaximal (steps_of rules (shown_on items)) k
    → (origin : ℕ) × IsMet (HasShown items) (box_of k.piece) origin
key_met law rules items k m =
    let r = rule_of rules (shown_on items) (line_of_key k) k.piece.y0
    (m.rows k.piece.y0 (omega (arith, ints)) m.filled) in
    some_met r.rule (shown_on items) (HasShown items) (shown_seen items) k.piece.axis k.piece.side
    k.piece.x1 k.piece.x2
    k.piece.y0 k.piece.y1 m.filled
    (step_on law r.rule (first_squares r.rule.check (shown_on items))
    (second_squares r.rule.check (shown_on items)) k.piece.axis k.piece.side k.piece.x1 k.piece.x2
    k.piece.y0 r.step)

pub each_meets : TestDecidesPairSteps → EachMarkerMeetsSome
each_meets law s markers m h c =
    let k = (tested_from law s.deck.rules (shown s) markers h).1.sound m c in
    let p = key_met law s.deck.rules (shown s) m.key k.run in
    (p.0, (k.met p.0).1 p.1)

empty_book : IsBook []
empty_book = record {
  filled = λ k d lt. absurd (omega (arith, lt));
  ordered = search rules;
  ascending = λ k d lt. absurd (omega (arith, lt));
}

pub none_without : TestDecidesPairSteps → SquaresLieInExtents → NoShapesNoMarkers
none_without law lie s e = flat_from law s.deck.rules (shown s) [] (
  empty_book,
  record {
    sound = λ m c. absurd (omega (arith, c.1));
    complete = λ k m.
        let p = key_met law s.deck.rules (shown s) k m in
        let b = lie (shown s) p.1.1.0 p.0 p.1.0 p.1.1.1 in
        absurd (not_both (shown_extent s) b.corners e b.is);
  },
)
  where
    not_both : (o : Option Box2) (b : Box2) → o ≡ None → o ≡ Some b → ⊥
    not_both o b e f = cc
