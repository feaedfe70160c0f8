-- The book of all answers.
use Rattle.std.proofs.Common.{◌≡◌, ℕ, ◌<◌, Bool, true, List, [], get_or, Some, sym, subst, ap, ◌∙◌, arith}
use Rattle.std.specs.Prelude.{ℤ, ◌≤ℤ◌, ◌<ℤ◌}
use Rattle.std.specs.Int.{int_min, int_max}
use Rattle.std.proofs.lemmas.Bool.{false≢true, and_parts}
use Rattle.std.proofs.lemmas.Int.{ints, clamps}
use Rattle.mpw_geom.specs.declared.plane.Box2.{Box2}
use Rattle.mpw_geom.specs.declared.plane.Layer.{Layer}
use Rattle.mpw_geom.specs.Plane.{has_square}
use Rattle.mpw_geom.proofs.Tests.{SquareIn-from_test}
use Rattle.mpw_deck.specs.declared.rule.Check.{Check}
use Rattle.mpw_deck.specs.declared.rule.Check.TheVariants.{Width, Space, Separation, Enclosing}
use Rattle.mpw_edges.specs.declared.run.Axis.{Axis}
use Rattle.mpw_edges.specs.declared.run.Axis.TheVariants.{V, H}
use Rattle.mpw_hier.specs.Items.{Item}
use Rattle.mpw_tiles.specs.declared.listing.Rectangle.{Rectangle}
use Rattle.mpw_tiles.specs.Laws.{LieIn, LayersLieInExtents, EachStepHasOneTile}
use Rattle.mpw_tiles.specs.Plan.{Tiling, plan_of, tiles, tile_core}
use Rattle.mpw_tiles.specs.Snapshots.{Snapshot, IsSnapshot, shown, shown_extent, plan_for, StandFor}
use Rattle.mpw_markers.specs.declared.marker.Line.{Line}
use Rattle.mpw_markers.specs.declared.marker.Marker.{Marker}
use Rattle.mpw_markers.specs.Whole.{AreMarkersOf}
use Rattle.mpw_markers.specs.Laws.{AreListedByCores, StitchedIsWhole}
use Rattle.mpw_job.specs.Computed.{steps_of, shown_on}
use Rattle.mpw_job.specs.Layers.{Coverage, first_squares, second_squares}
use Rattle.mpw_job.specs.Internal.Cores.{square_on, is_in_core}
use Rattle.mpw_tiles.specs.Shown.{HasShown}
use Rattle.mpw_job.specs.Laws.{AnswerTiles, AnswersMakeTheLayout}
use Rattle.mpw_job.proofs.Tests.{step_on, step_test, rule_of}
use Rattle.mpw_job.proofs.Shapes.{tests_tell, shown_by, by_from, by_as}
use Rattle.mpw_job.proofs.Flat.{flat_from}
use Rattle.mpw_tiles.proofs.Told.{plan_is}
use Rattle.mpw_job.proofs.Cores.{Laws, answer_is}

lie_first : (check : Check) (box : Box2) (on : Coverage) → ((layer : Layer) → LieIn box (on layer))
    → LieIn box (first_squares check on)
lie_first (Width l) box on h = h l
lie_first (Space l) box on h = h l
lie_first (Separation l m) box on h = h l
lie_first (Enclosing l m) box on h = h l

lie_second : (check : Check) (box : Box2) (on : Coverage) → ((layer : Layer) → LieIn box (on layer))
    → LieIn box (second_squares check on)
lie_second (Width l) box on h = λ i j e. absurd (false≢true e)
lie_second (Space l) box on h = λ i j e. absurd (false≢true e)
lie_second (Separation l m) box on h = h m
lie_second (Enclosing l m) box on h = h m

low_of : Box2 → ℤ
low_of b = int_min b.x0 b.y0

high_of : Box2 → ℤ
high_of b = int_max b.x1 b.y1

rows_within : (core : Box2) (axis : Axis) (x1 j : ℤ) → has_square core (square_on axis x1 j) ≡ true
    → (low_of core ≤ℤ j) × (j <ℤ high_of core)
unfolding low_of high_of
rows_within core V x1 j e =
    let i = SquareIn-from_test core (square_on V x1 j) e in
    let a = i.bottom in
    let b = i.top in
    (omega (arith, ints, clamps), omega (arith, ints, clamps))
rows_within core H x1 j e =
    let i = SquareIn-from_test core (square_on H x1 j) e in
    let a = i.left in
    let b = i.right in
    (omega (arith, ints, clamps), omega (arith, ints, clamps))

pub record All : Type 0 where
  pub each : Laws
  pub one : EachStepHasOneTile
  pub lie : LayersLieInExtents
  pub whole : StitchedIsWhole

covered : All → (s : Snapshot) (extent : Box2) (line : Line) (j : ℤ) → IsSnapshot s
    → shown_extent s ≡ Some extent → steps_of s.deck.rules (shown_on (shown s)) line j ≡ true
    → (k : ℕ) × (k < tiles (plan_of extent s.deck))
    × (is_in_core (tile_core (plan_of extent s.deck) k) line j ≡ true)
covered laws s extent line j h found e =
    let plan = plan_of extent s.deck in
    let on = shown_on (shown s) in
    let r = rule_of s.deck.rules on line j e in
    let a = first_squares r.rule.check on in
    let b = second_squares r.rule.check on in
    let least = h.deck.short in
    let lie : (layer : Layer) → LieIn extent (on layer) = λ layer. laws.lie (shown s) extent layer
    (on layer) found (tests_tell (shown s) layer) in
    let one = laws.one (plan_of extent s.deck) r.rule a b line.axis line.side line.x1 line.x2 j
    (omega arith) (lie_first r.rule.check extent on lie) (lie_second r.rule.check extent on lie)
    (step_on laws.each.decides r.rule a b line.axis line.side line.x1 line.x2 j r.step) in (
      one.0,
      one.1.within,
      (and_parts _ _
          (step_test laws.each.decides r.rule a b (tile_core plan one.0) line.axis line.side line.x1
          line.x2 j one.1.inside)).1,
    )

listed : All → (s : Snapshot) (extent : Box2) (windows : List (List Rectangle)) (run : ℕ)
    (lists : List (List Marker)) → IsSnapshot s → shown_extent s ≡ Some extent
    → plan_for s ≡ Some (plan_of extent s.deck) → StandFor s windows
    → AnswerTiles s (plan_of extent s.deck) windows run lists
    → AreListedByCores (steps_of s.deck.rules (shown_on (shown s)))
    (λ k. is_in_core (tile_core (plan_of extent s.deck) k))
    (λ o q. shown_by (shown s) o q ≡ true) lists
listed laws s extent windows run lists h found e stand answers = record {
  listed = λ k u. let v : k < tiles (plan_of extent s.deck) = subst (λ n. k < n) answers.count u in
      answer_is laws.each s extent windows run k (get_or lists k []) e stand v
      (answers.answered k v);
  bounded = λ k u. (
    low_of (tile_core (plan_of extent s.deck) k),
    high_of (tile_core (plan_of extent s.deck) k),
    λ line j i. rows_within (tile_core (plan_of extent s.deck) k) line.axis line.x1 j i,
  );
  covered = λ line j i. let c = covered laws s extent line j h found i in
      (c.0, subst (λ n. c.0 < n) (sym answers.count) c.1, c.2);
}

-- what is touched, by the test of a square or by the shape that has it
as_shown : (items : List Item) (steps : Line → ℤ → Bool) (book : List Marker)
    → AreMarkersOf steps (λ o q. shown_by items o q ≡ true) book
    → AreMarkersOf steps (HasShown items) book
as_shown items steps book h = record {
  sound = λ m c. let k = h.sound m c in record {
    run = k.run;
    ascending = k.ascending;
    met = λ origin. (
      λ i. let p = (k.met origin).0 i in (p.0, by_from items origin p.0 p.1, p.2),
      λ i. (k.met origin).1 (i.0, by_as items origin i.0 i.1, i.2),
    );
  };
  complete = h.complete;
}

pub made : All → AnswersMakeTheLayout
made laws s plan windows run lists book h e stand answers stitched =
    let over = plan_is s.deck (shown_extent s) plan e in
    let e' : plan_for s ≡ Some (plan_of over.extent s.deck) = e ∙ ap Some over.is in
    let answers' = subst (λ (q : Tiling). AnswerTiles s q windows run lists) over.is answers in
    flat_from laws.each.decides s.deck.rules (shown s) book (
      stitched.markers,
      as_shown (shown s) (steps_of s.deck.rules (shown_on (shown s))) book
          (laws.whole (steps_of s.deck.rules (shown_on (shown s)))
          (λ k. is_in_core (tile_core (plan_of over.extent s.deck) k)) (shown_by (shown s))
          lists book
          (listed laws s over.extent windows run lists h over.found e' stand answers') stitched),
    )
