-- What a tile's core finds, in terms of the whole layout.
use Rattle.std.proofs.Common.{◌≡◌, ℕ, ◌≤◌, ◌<◌, true, List, [], get_or, Some, sym, subst, arith}
use Rattle.std.specs.Prelude.{pos, ◌+ℤ◌, ◌-ℤ◌, ◌<ℤ◌, Contains, ◌↔◌}
use Rattle.std.proofs.lemmas.Bool.{and_parts}
use Rattle.std.proofs.lemmas.Int.{ints}
use Rattle.mpw_geom.specs.declared.plane.Box2.{Box2}
use Rattle.mpw_geom.specs.declared.plane.Layer.{Layer}
use Rattle.mpw_geom.specs.Plane.{Square, has_square, IsBoxInPlane}
use Rattle.mpw_geom.proofs.Tests.{test_from_SquareIn}
use Rattle.mpw_deck.specs.declared.rule.Rule.{Rule}
use Rattle.mpw_edges.specs.declared.run.Piece.{Piece}
use Rattle.mpw_edges.specs.Laws.{AreSameIn}
use Rattle.mpw_edges.specs.Pieces.{box_of}
use Rattle.mpw_tiles.specs.Grid.{core_at}
use Rattle.mpw_tiles.specs.declared.listing.Rectangle.{Rectangle}
use Rattle.mpw_tiles.specs.Laws as tiling
use Rattle.mpw_tiles.proofs.Told.{plan_is}
use Rattle.mpw_tiles.specs.Placed.{IsSquareInPlane}
use Rattle.mpw_tiles.specs.Plan.{Tiling, plan_of, tiles, tile_core, tile_window}
use Rattle.mpw_tiles.specs.Snapshots.{Snapshot, shown, shown_extent, plan_for, StandFor}
use Rattle.mpw_markers.specs.declared.marker.Key.{Key}
use Rattle.mpw_markers.specs.declared.marker.Marker.{Marker}
use Rattle.mpw_markers.specs.Markers as marks
use Rattle.mpw_geom.specs.Meeting.{IsMet}
use Rattle.mpw_markers.specs.Whole.{IsMaximal, IsMarkerOf, AreMarkersOf}
use Rattle.mpw_markers.specs.Laws.{steps_in}
use Rattle.mpw_edges.specs.Computed.{TestDecidesPairSteps}
use Rattle.mpw_job.specs.Computed.{steps_of, shown_on}
use Rattle.mpw_job.specs.Layers.{first_squares, second_squares}
use Rattle.mpw_job.specs.Internal.Cores.{is_in_core}
use Rattle.mpw_tiles.specs.Listing.{HasListed}
use Rattle.mpw_job.specs.Answers.{listed_on, IsFoundIn, Answers}
use Rattle.mpw_job.specs.Laws.{tile_job_of, CoresLieInPlane}
use Rattle.mpw_job.proofs.Tests.{same_first, same_second, get_contains, maximal_from, run_from, rule_of}
use Rattle.mpw_job.proofs.Shapes.{tests_tell, tests_tell_listed, shown_by, by_from, by_as}

-- ---- cores

-- a core with area, whose squares' margin lies in the plane, lies in it
core_near : (core : Box2) (margin : ℕ) → core.x0 <ℤ core.x1 → core.y0 <ℤ core.y1
    → ((s : Square) → has_square (record {
      x0 = core.x0 -ℤ pos margin;
      y0 = core.y0 -ℤ pos margin;
      x1 = core.x1 +ℤ pos margin;
      y1 = core.y1 +ℤ pos margin;
    }) s ≡ true → IsSquareInPlane s)
    → IsBoxInPlane core
core_near core margin w h near =
    let window : Box2 = record {
      x0 = core.x0 -ℤ pos margin;
      y0 = core.y0 -ℤ pos margin;
      x1 = core.x1 +ℤ pos margin;
      y1 = core.y1 +ℤ pos margin;
    } in
    let low : Square = record { column = core.x0; row = core.y0 } in
    let high : Square = record { column = core.x1 -ℤ pos 1; row = core.y1 -ℤ pos 1 } in
    let a = near low (test_from_SquareIn window low
    (record {
      left = omega (arith, ints);
      right = omega (arith, ints);
      bottom = omega (arith, ints);
      top = omega (arith, ints);
    })) in
    let b = near high (test_from_SquareIn window high
    (record {
      left = omega (arith, ints);
      right = omega (arith, ints);
      bottom = omega (arith, ints);
      top = omega (arith, ints);
    })) in
    let a0 = a.left in
    let a1 = a.right in
    let a2 = a.bottom in
    let a3 = a.top in
    let b0 = b.left in
    let b1 = b.right in
    let b2 = b.bottom in
    let b3 = b.top in
    record {
      x0 = record { low = omega (arith, ints); high = omega (arith, ints) };
      y0 = record { low = omega (arith, ints); high = omega (arith, ints) };
      x1 = record { low = omega (arith, ints); high = omega (arith, ints) };
      y1 = record { low = omega (arith, ints); high = omega (arith, ints) };
    }

core_wide : (plan : Tiling) (tile : ℕ) → 1 ≤ plan.grid.side
    → (tile_core plan tile).x0 <ℤ (tile_core plan tile).x1
unfolding core_at
core_wide plan tile h = omega (arith, ints)

core_high : (plan : Tiling) (tile : ℕ) → 1 ≤ plan.grid.side
    → (tile_core plan tile).y0 <ℤ (tile_core plan tile).y1
unfolding core_at
core_high plan tile h = omega (arith, ints)

pub cores_in_plane : tiling.PlansLieInPlane → CoresLieInPlane
cores_in_plane in_plane s plan tile h e u =
    let over = plan_is s.deck (shown_extent s) plan e in
    let least = h.deck.short in
    let side : 1 ≤ plan.grid.side = subst (λ (q : Tiling). 1 ≤ q.grid.side) (sym over.is)
    (omega arith) in
    core_near (tile_core plan tile) plan.margin (core_wide plan tile side)
    (core_high plan tile side) (λ q w. in_plane s plan h e tile q u w)

-- ---- a tile's answer

pub record Laws : Type 0 where
  pub decides : TestDecidesPairSteps
  pub windows : tiling.WindowsShowLayers
  pub found : tiling.EachWindowDecides
  pub met : tiling.WindowsTellMet

-- the windows and the layout have the same squares in a tile's window
record IsAlike (s : Snapshot) (extent : Box2) (windows : List (List Rectangle)) (tile : ℕ) :
    Type 0 where
  same : (layer : Layer) → AreSameIn (tile_window (plan_of extent s.deck) tile)
      (shown_on (shown s) layer) (listed_on (get_or windows tile []) layer)

alike : Laws → (s : Snapshot) (extent : Box2) (windows : List (List Rectangle)) (tile : ℕ)
    → plan_for s ≡ Some (plan_of extent s.deck) → StandFor s windows
    → tile < tiles (plan_of extent s.deck) → IsAlike s extent windows tile
alike laws s extent windows tile e stand u = record {
  same = λ layer. laws.windows s (plan_of extent s.deck) windows tile layer
      (shown_on (shown s) layer) (listed_on (get_or windows tile []) layer) e stand u
      (tests_tell (shown s) layer) (tests_tell_listed (get_or windows tile []) layer);
}

-- what a rule finds among the rectangles is what it finds in the layout
found_alike : Laws → (s : Snapshot) (extent : Box2) (windows : List (List Rectangle)) (tile : ℕ)
    (rule : Rule) (p : Piece) → plan_for s ≡ Some (plan_of extent s.deck) → StandFor s windows
    → tile < tiles (plan_of extent s.deck) → Contains s.deck.rules rule
    → IsFoundIn (tile_core (plan_of extent s.deck) tile) (shown_on (shown s)) rule p
    ↔ IsFoundIn (tile_core (plan_of extent s.deck) tile) (listed_on (get_or windows tile []))
    rule p
found_alike laws s extent windows tile rule p e stand u c =
    let window = tile_window (plan_of extent s.deck) tile in
    let layers = alike laws s extent windows tile e stand u in
    laws.found extent s.deck rule tile
    (first_squares rule.check (shown_on (shown s))) (second_squares rule.check (shown_on (shown s)))
    (first_squares rule.check (listed_on (get_or windows tile [])))
    (second_squares rule.check (listed_on (get_or windows tile []))) c
    (same_first rule.check window (shown_on (shown s)) (listed_on (get_or windows tile []))
    layers.same)
    (same_second rule.check window (shown_on (shown s)) (listed_on (get_or windows tile []))
    layers.same) p

-- which origins the run's box touches
met_alike : Laws → (s : Snapshot) (extent : Box2) (windows : List (List Rectangle)) (tile : ℕ)
    (rule : Rule) (m : Marker) (origin : ℕ) → plan_for s ≡ Some (plan_of extent s.deck)
    → StandFor s windows → tile < tiles (plan_of extent s.deck) → Contains s.deck.rules rule
    → IsFoundIn (tile_core (plan_of extent s.deck) tile) (shown_on (shown s)) rule m.key.piece
    → IsMet (λ o q. shown_by (shown s) o q ≡ true) (box_of m.key.piece) origin
    ↔ IsMet (HasListed (get_or windows tile [])) (box_of m.key.piece) origin
met_alike laws s extent windows tile rule m origin e stand u c run =
    let tell = laws.met s (plan_of extent s.deck) windows rule tile
    (first_squares rule.check (shown_on (shown s)))
    (second_squares rule.check (shown_on (shown s))) m.key.piece origin e stand u c run in (
      λ h. tell.0 (h.0, by_from (shown s) origin h.0 h.1, h.2),
      λ h. let i = tell.1 h in (i.0, by_as (shown s) origin i.0 i.1, i.2),
    )

-- the answer of a tile has exactly the markers of its core
pub answer_is : Laws → (s : Snapshot) (extent : Box2) (windows : List (List Rectangle))
    (run tile : ℕ) (list : List Marker) → plan_for s ≡ Some (plan_of extent s.deck)
    → StandFor s windows → tile < tiles (plan_of extent s.deck)
    → Answers (tile_job_of s (plan_of extent s.deck) windows run tile) list
    → AreMarkersOf (steps_in (steps_of s.deck.rules (shown_on (shown s)))
    (is_in_core (tile_core (plan_of extent s.deck) tile)))
    (λ o q. shown_by (shown s) o q ≡ true) list
answer_is laws s extent windows run tile list e stand u answers =
    record { sound = sound; complete = complete }
  where
    sound : (m : Marker) → Contains list m
        → IsMarkerOf (steps_in (steps_of s.deck.rules (shown_on (shown s)))
        (is_in_core (tile_core (plan_of extent s.deck) tile)))
        (λ o q. shown_by (shown s) o q ≡ true) m
    sound m c =
        let a = answers.sound m c in
        let in_deck = get_contains s.deck.rules m.key.rule a.rule a.at in
        let found =
        (found_alike laws s extent windows tile a.rule m.key.piece e stand u in_deck).1 a.run in
        record {
          run = maximal_from laws.decides s.deck.rules (shown_on (shown s))
              (tile_core (plan_of extent s.deck) tile) m.key a.rule a.at found;
          ascending = a.met.ascending;
          met = λ origin.
              let same =
              met_alike laws s extent windows tile a.rule m origin e stand u in_deck found in
              (λ k. same.1 ((a.met.exact origin).0 k), λ k. (a.met.exact origin).1 (same.0 k));
        }

    complete : (k : Key) → IsMaximal (steps_in (steps_of s.deck.rules (shown_on (shown s)))
        (is_in_core (tile_core (plan_of extent s.deck) tile))) k → (m : Marker) × Contains list m
        × (m.key ≡ k)
    complete k m =
        let first = and_parts (steps_of s.deck.rules (shown_on (shown s)) (marks.line_of_key k)
        k.piece.y0) _ (m.rows k.piece.y0 (omega (arith, ints)) m.filled) in
        let r =
        rule_of s.deck.rules (shown_on (shown s)) (marks.line_of_key k) k.piece.y0 first.0 in
        let in_deck = get_contains s.deck.rules k.rule r.rule r.at in
        let found = run_from laws.decides s.deck.rules (shown_on (shown s))
        (tile_core (plan_of extent s.deck) tile) k r.rule r.at m in
        answers.complete k.rule r.rule k.piece r.at
        ((found_alike laws s extent windows tile r.rule k.piece e stand u in_deck).0 found)
