-- Pair steps belong to one tile, and windows decide.
use Rattle.std.proofs.Common.{◌≡◌, ℕ, ◌≤◌, ℤ, pos, ◌-ℤ◌, ◌≤ℤ◌, true, List, [], ◌∷◌, max, inl, inr, ◌⊎◌, arith}
use Rattle.std.specs.Prelude.{Contains, All, ◌↔◌, fold}
use Rattle.std.proofs.lemmas.Int.{ints}
use Rattle.std.proofs.lemmas.List.Elements.{All-nil, All-cons, All-contains}
use Rattle.mpw_geom.specs.declared.plane.Box2.{Box2}
use Rattle.mpw_geom.specs.declared.plane.Point.{Point}
use Rattle.mpw_geom.specs.Plane.{Square, has_point, has_square}
use Rattle.mpw_geom.proofs.Tests.{SquareIn-from_test, test_from_SquareIn, test_from_PointIn}
use Rattle.mpw_deck.specs.declared.rule.Rule.{Rule}
use Rattle.mpw_deck.specs.declared.rule.Check.{Check}
use Rattle.mpw_deck.specs.declared.rule.Check.TheVariants.{Width, Space, Separation, Enclosing}
use Rattle.mpw_deck.specs.Decks.{Deck}
use Rattle.mpw_edges.specs.declared.run.Axis.{Axis}
use Rattle.mpw_edges.specs.declared.run.Axis.TheVariants.{V, H}
use Rattle.mpw_edges.specs.declared.run.Piece.{Piece}
use Rattle.mpw_edges.specs.Edges.{Squares, exchanged}
use Rattle.mpw_edges.specs.Steps.{IsPair}
use Rattle.mpw_edges.specs.Pieces.{IsInCore, IsPiece, IsStepOn}
use Rattle.mpw_edges.specs.Laws.{AreSameIn}
use Rattle.mpw_edges.proofs.Window.{window, step_same, back}
use Rattle.mpw_tiles.specs.Grid.{core_of, found_cell}
use Rattle.mpw_tiles.proofs.Cells.{only_cell}
use Rattle.mpw_tiles.specs.Plan.{Tiling, greatest_distance, plan_of, tile_core, tile_window}
use Rattle.mpw_tiles.specs.Laws.{EachWindowDecidesRows, LieIn, IsOnlyTile}

-- ---- where a pair step lies

-- a square of the row at the coordinate or before it
abbrev HasBeside : Squares → ℤ → ℤ → Type 0
HasBeside a x j = (a x j ≡ true) ⊎ (a (x -ℤ pos 1) j ≡ true)

-- the first edge of a pair has a square of either layer next to it
beside : (check : Check) (a b : Squares) (side : ℕ) (x1 x2 j : ℤ) → IsPair check a b side x1 x2 j
    → HasBeside a x1 j ⊎ HasBeside b x1 j
beside (Width _) a b side x1 x2 j p = inl (inl p.1.0)
beside (Space _) a b side x1 x2 j p = inl (inr p.1.0)
beside (Separation _ _) a b side x1 x2 j p =
    elim p.1 [ inl q ↦ inl (inr q.1.0) | inr q ↦ inr (inr q.1.0) ]
beside (Enclosing _ _) a b side x1 x2 j p =
    elim p.1 [ inl q ↦ inl (inl q.1.0) | inr q ↦ inr (inr q.1.0) ]

abbrev point : ℤ → ℤ → Point
point x y = record { x = x; y = y }

-- a corner of a square in the box is a point of it
corner_in : (box : Box2) (s : Square) (p : Point) → has_square box s ≡ true → s.column ≤ℤ p.x
    → (p.x -ℤ pos 1) ≤ℤ s.column → s.row ≤ℤ p.y → (p.y -ℤ pos 1) ≤ℤ s.row
    → has_point box p ≡ true
corner_in box s p h l r d u =
    let i = SquareIn-from_test box s h in
    test_from_PointIn box p (record {
      left = omega (arith, ints);
      right = omega (arith, ints);
      bottom = omega (arith, ints);
      top = omega (arith, ints);
    })

beside_in : (box : Box2) (a : Squares) (x j : ℤ) → LieIn box a → HasBeside a x j
    → has_point box (point x j) ≡ true
beside_in box a x j h (inl e) =
    corner_in box _ (point x j) (h x j e) (omega (arith, ints)) (omega (arith, ints))
    (omega (arith, ints)) (omega (arith, ints))
beside_in box a x j h (inr e) =
    corner_in box _ (point x j) (h (x -ℤ pos 1) j e) (omega (arith, ints)) (omega (arith, ints))
    (omega (arith, ints)) (omega (arith, ints))

beside_exchanged : (box : Box2) (a : Squares) (x j : ℤ) → LieIn box a → HasBeside (exchanged a) x j
    → has_point box (point j x) ≡ true
beside_exchanged box a x j h (inl e) =
    corner_in box _ (point j x) (h j x e) (omega (arith, ints)) (omega (arith, ints))
    (omega (arith, ints)) (omega (arith, ints))
beside_exchanged box a x j h (inr e) =
    corner_in box _ (point j x) (h j (x -ℤ pos 1) e) (omega (arith, ints)) (omega (arith, ints))
    (omega (arith, ints)) (omega (arith, ints))

in_core : (box : Box2) (x y : ℤ) → has_square box (record { column = x; row = y }) ≡ true
    → IsInCore box x y
in_core box x y t = let s = SquareIn-from_test box _ t in (s.left, s.right, s.bottom, s.top)

from_core : (box : Box2) (x y : ℤ) → IsInCore box x y
    → has_square box (record { column = x; row = y }) ≡ true
from_core box x y p =
    test_from_SquareIn box _ (record { left = p.0; right = p.1; bottom = p.2; top = p.3 })

-- ---- one tile

pub one_tile : (plan : Tiling) (rule : Rule) (a b : Squares) (axis : Axis) (side : ℕ) (x1 x2 j : ℤ)
    → 1 ≤ plan.grid.side → LieIn plan.grid.extent a → LieIn plan.grid.extent b
    → IsStepOn rule a b axis side x1 x2 j
    → (tile : ℕ) × IsOnlyTile plan rule a b axis side x1 x2 j tile
one_tile plan rule a b V side x1 x2 j h f g s =
    let t : has_point plan.grid.extent (point x1 j) ≡ true =
    elim (beside rule.check a b side x1 x2 j s.0) [
      | inl p ↦ beside_in plan.grid.extent a x1 j f p
      | inr p
          ↦ beside_in plan.grid.extent b x1 j g p
    ] in
    let o = only_cell plan.grid (point x1 j) h t in (
      found_cell plan.grid (point x1 j),
      record {
        within = o.within;
        inside = (s, in_core (core_of plan.grid (found_cell plan.grid (point x1 j))) x1 j o.inside);
        only = λ other u k. o.only other u (from_core (core_of plan.grid other) x1 j k.1);
      },
    )
one_tile plan rule a b H side x1 x2 j h f g s =
    let t : has_point plan.grid.extent (point j x1) ≡ true =
    elim (beside rule.check (exchanged a) (exchanged b) side x1 x2 j s.0) [
      | inl p ↦ beside_exchanged plan.grid.extent a x1 j f p
      | inr p
          ↦ beside_exchanged plan.grid.extent b x1 j g p
    ] in
    let o = only_cell plan.grid (point j x1) h t in
    let i = in_core (core_of plan.grid (found_cell plan.grid (point j x1))) j x1 o.inside in (
      found_cell plan.grid (point j x1),
      record {
        within = o.within;
        inside = (s, (i.2, i.3, i.0, i.1));
        only = λ other u k. o.only other u
            (from_core (core_of plan.grid other) j x1 (k.1.2, k.1.3, k.1.0, k.1.1));
      },
    )

-- ---- windows

abbrev further : ℕ → Rule → ℕ
further greatest rule = max greatest rule.distance

grows : (n : ℕ) (rules : List Rule) → n ≤ fold further n rules
grows n [] = omega arith
grows n (rule ∷ rules) = let p = grows (further n rule) rules in omega arith

bounded : (n : ℕ) (rules : List Rule)
    → All (λ (rule : Rule). rule.distance ≤ fold further n rules) rules
bounded n [] = All-nil (λ (rule : Rule). rule.distance ≤ n)
bounded n (rule ∷ rules) =
    All-cons (λ (other : Rule). other.distance ≤ fold further n (rule ∷ rules)) rule rules
    (let p = grows (further n rule) rules in omega arith) (bounded (further n rule) rules)

pub no_greater : (rules : List Rule) (rule : Rule) → Contains rules rule
    → rule.distance ≤ greatest_distance rules
no_greater rules rule h = All-contains (λ (other : Rule). other.distance ≤ greatest_distance rules)
    rules rule (bounded 0 rules) h

pub decides : (extent : Box2) (deck : Deck) (rule : Rule) (tile : ℕ) (a b a' b' : Squares)
    → Contains deck.rules rule → AreSameIn (tile_window (plan_of extent deck) tile) a a'
    → AreSameIn (tile_window (plan_of extent deck) tile) b b' → (p : Piece)
    → IsPiece rule a b (tile_core (plan_of extent deck) tile) p
    ↔ IsPiece rule a' b' (tile_core (plan_of extent deck) tile) p
decides extent deck rule tile a b a' b' h f g =
    window rule (greatest_distance deck.rules) a b a' b' (tile_core (plan_of extent deck) tile)
    (no_greater deck.rules rule h) f g

pub decides_rows : EachWindowDecidesRows
decides_rows extent deck rule tile a b a' b' h f g axis side x1 x2 j =
    let plan = plan_of extent deck in
    let core = tile_core plan tile in
    let w = tile_window plan tile in
    let greatest = greatest_distance deck.rules in
    let near = no_greater deck.rules rule h in (
      step_same rule greatest a b a' b' core near f g axis side x1 x2 j,
      step_same rule greatest a' b' a b core near (back w a a' f) (back w b b' g) axis side x1 x2 j,
    )
