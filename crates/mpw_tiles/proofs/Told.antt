-- What the window of a tile says about the layout.
use Rattle.std.proofs.Common.{◌≡◌, ℕ, ◌+◌, ◌≤◌, Bool, true, false, List, [], get_or, Option, Some, None, refl, sym, subst, arith}
use Rattle.std.specs.Prelude.{ℤ, pos, ◌-ℤ◌, ◌≤ℤ◌, if◌then◌else◌, nat_le}
use Rattle.std.proofs.lemmas.Int.{ints}
use Rattle.mpw_geom.specs.declared.plane.Box2.{Box2}
use Rattle.mpw_geom.specs.Plane.{Square, has_square, closed_square, widened}
use Rattle.mpw_geom.proofs.Tests.{PointIn-from_test, SquareIn, test_from_SquareIn, same_tests}
use Rattle.mpw_region.specs.Exchange.{exchanged_box}
use Rattle.mpw_deck.specs.declared.rule.Rule.{Rule}
use Rattle.mpw_deck.specs.Decks.{Deck}
use Rattle.mpw_edges.specs.declared.run.Axis.{Axis}
use Rattle.mpw_edges.specs.declared.run.Axis.TheVariants.{V, H}
use Rattle.mpw_edges.specs.Edges.{Squares, exchanged}
use Rattle.mpw_edges.specs.Pieces.{HasStep, IsPiece, box_on, box_of}
use Rattle.mpw_tiles.specs.declared.listing.Rectangle.{Rectangle}
use Rattle.mpw_tiles.specs.Listing.{IsListed, AreWindowsOf}
use Rattle.mpw_tiles.specs.Shown.{IsShown}
use Rattle.mpw_tiles.specs.Plan.{Tiling, greatest_distance, plan_of, tiles, tile_core, tile_window}
use Rattle.mpw_tiles.specs.Snapshots.{Snapshot, shown, shown_extent, plan_over, plan_for, AreWindowsFor, StandFor}
use Rattle.mpw_geom.specs.Meeting.{Meet}
use Rattle.mpw_tiles.specs.Laws.{WindowsShowLayers, WindowsListWhatIsShown, MetSquaresLieInWindows, WindowsTellMet}
use Rattle.mpw_tiles.proofs.Tiles.{no_greater}

windows_show : (s : Snapshot) (plan : Tiling) (windows : List (List Rectangle))
    → plan_for s ≡ Some plan → StandFor s windows
    → AreWindowsOf plan (IsShown (shown s)) windows
windows_show s plan windows e f =
    subst (λ (o : Option Tiling). AreWindowsFor o (shown s) windows) e f

-- ---- squares

pub show_layers : WindowsShowLayers
show_layers s plan windows tile layer a listed e stand u shows lists i j l r d t =
    let q : Square = record { column = i; row = j } in
    let w = test_from_SquareIn (tile_window plan tile) q
    (record { left = l; right = r; bottom = d; top = t }) in
    let f = (windows_show s plan windows e stand).each tile u in
    same_tests (a i j) (listed i j)
    (λ k. let p = shows.shown i j k in lists.all i j p.0 ((f.squares q layer p.0 w).1 p.1))
    (λ k. let p = lists.listed_at i j k in
    shows.all i j p.0 ((f.squares q layer p.0 w).0 p.1))

pub list_shown : WindowsListWhatIsShown
list_shown s plan windows tile r e stand near u c =
    let f = (windows_show s plan windows e stand).each tile u in
    let n = near tile r u c in
    record {
      square = n.square;
      inside = n.first;
      has = n.second;
      shown_there = (f.squares n.square r.layer r.origin n.first).0
          (r, c, record { on_layer = refl; of_origin = refl; has = n.second });
    }

-- ---- squares that touch the box of a run

-- the square is at most one nm from the box
record IsNext (b : Box2) (s : Square) : Type 0 where
  left : (b.x0 -ℤ pos 1) ≤ℤ s.column
  right : s.column ≤ℤ b.x1
  bottom : (b.y0 -ℤ pos 1) ≤ℤ s.row
  top : s.row ≤ℤ b.y1

next_to : (b : Box2) (s : Square) → Meet (closed_square s) b → IsNext b s
unfolding closed_square
next_to b s m =
    let i = PointIn-from_test (closed_square s) m.0 m.1 in
    let k = PointIn-from_test b m.0 m.2 in
    record {
      left = omega (arith, ints);
      right = omega (arith, ints);
      bottom = omega (arith, ints);
      top = omega (arith, ints);
    }

-- the first and the last row of a run have the pair step
abbrev HasEnds : Rule → Squares → Squares → Box2 → Axis → ℕ → (x1 x2 y0 y1 : ℤ) → Type 0
HasEnds rule a b core axis side x1 x2 y0 y1 =
    HasStep rule a b core axis side x1 x2 y0 × HasStep rule a b core axis side x1 x2 (y1 -ℤ pos 1)

near_vertical : (rule : Rule) (a b : Squares) (core : Box2) (greatest side : ℕ)
    (x1 x2 y0 y1 : ℤ) (s : Square) → rule.distance ≤ greatest
    → HasEnds rule a b core V side x1 x2 y0 y1 → IsNext (box_on V x1 x2 y0 y1) s
    → SquareIn (widened core (greatest + 1)) s
near_vertical rule a b core greatest side x1 x2 y0 y1 s h ends n = record {
  left = omega (arith, ints);
  right = omega (arith, ints);
  bottom = omega (arith, ints);
  top = omega (arith, ints);
}

near_run : (rule : Rule) (a b : Squares) (core : Box2) (greatest : ℕ) (axis : Axis) (side : ℕ)
    (x1 x2 y0 y1 : ℤ) (s : Square) → rule.distance ≤ greatest
    → HasEnds rule a b core axis side x1 x2 y0 y1 → IsNext (box_on axis x1 x2 y0 y1) s
    → SquareIn (widened core (greatest + 1)) s
near_run rule a b core greatest V side x1 x2 y0 y1 s h ends n =
    near_vertical rule a b core greatest side x1 x2 y0 y1 s h ends n
near_run rule a b core greatest H side x1 x2 y0 y1 s h ends n =
    let i = near_vertical rule (exchanged a) (exchanged b) (exchanged_box core) greatest side x1 x2
    y0 y1 (record { column = s.row; row = s.column }) h ends
    (record { left = n.bottom; right = n.top; bottom = n.left; top = n.right }) in
    record { left = i.bottom; right = i.top; bottom = i.left; top = i.right }

pub met_in_window : MetSquaresLieInWindows
met_in_window extent deck rule tile a b p s c piece m =
    let core = tile_core (plan_of extent deck) tile in
    let f = piece.filled in
    let first = piece.steps p.y0 (omega (arith, ints)) f in
    let last = piece.steps (p.y1 -ℤ pos 1) (omega (arith, ints)) (omega (arith, ints)) in
    test_from_SquareIn (tile_window (plan_of extent deck) tile) s
    (near_run rule a b core (greatest_distance deck.rules) p.axis p.side p.x1 p.x2 p.y0 p.y1 s
    (no_greater deck.rules rule c) (first, last) (next_to (box_of p) s m))

-- ---- origins

small : (t : Bool) (q plan : Tiling) → (if t then Some q else None) ≡ Some plan → plan ≡ q
small true q plan e = sym cc
small false q plan e = cc

pub record IsOver (deck : Deck) (o : Option Box2) (plan : Tiling) : Type 0 where
  pub extent : Box2
  pub found : o ≡ Some extent
  pub is : plan ≡ plan_of extent deck

pub plan_is : (deck : Deck) (o : Option Box2) (plan : Tiling) → plan_over deck o ≡ Some plan
    → IsOver deck o plan
plan_is deck None plan e = cc
plan_is deck (Some extent) plan e =
    record {
      extent = extent;
      found = refl;
      is = small (nat_le (tiles (plan_of extent deck)) 4096)
          (plan_of extent deck) plan e;
    }

pub tell_met : WindowsTellMet
tell_met s plan windows rule tile a b p origin e stand u c piece =
    let f = (windows_show s plan windows e stand).each tile u in
    let over = plan_is s.deck (shown_extent s) plan e in
    let within : (q : Square) → Meet (closed_square q) (box_of p)
    → has_square (tile_window plan tile) q ≡ true =
    λ q m. subst (λ (x : Tiling). has_square (tile_window x tile) q ≡ true) (sym over.is)
    (met_in_window over.extent s.deck rule tile a b p q c
    (subst (λ (x : Tiling). IsPiece rule a b (tile_core x tile) p) over.is piece) m) in (
      λ h.
          let l = (f.squares h.0 h.1.0 origin (within h.0 h.2)).1 h.1.1 in
          (h.0, (l.0, l.1, l.2.of_origin, l.2.has), h.2),
      λ h.
          let r = h.1.0 in
          let l : IsListed (get_or windows tile []) r.layer origin h.0 =
          (r, h.1.1, record { on_layer = refl; of_origin = h.1.2; has = h.1.3 }) in
          (h.0, (r.layer, (f.squares h.0 r.layer origin (within h.0 h.2)).0 l), h.2),
    )
