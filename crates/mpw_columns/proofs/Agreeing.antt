-- What a column finds depends only on the squares of its window, which has the same rows as the column, as it is seen along its axis.
use Rattle.std.proofs.Common.{ℕ, ◌+◌, ◌≤◌, ℤ, pos, ◌-ℤ◌, ◌≤ℤ◌, ◌<ℤ◌, List, refl, sym, arith}
use Rattle.std.specs.Prelude.{All}
use Rattle.std.proofs.lemmas.Int.{ints}
use Rattle.std.proofs.lemmas.List.Elements.{All-contains}
use Rattle.mpw_geom.specs.declared.plane.Box2.{Box2}
use Rattle.mpw_geom.specs.declared.plane.Layer.{Layer}
use Rattle.mpw_deck.specs.declared.rule.Rule.{Rule}
use Rattle.mpw_deck.specs.declared.rule.Check.{Check}
use Rattle.mpw_deck.specs.declared.rule.Check.TheVariants.{Width, Space, Separation, Enclosing}
use Rattle.mpw_edges.specs.declared.run.Axis.{Axis}
use Rattle.mpw_edges.specs.declared.run.Axis.TheVariants.{V, H}
use Rattle.mpw_region.specs.Exchange.{exchanged_box}
use Rattle.mpw_edges.specs.Edges.{Squares, exchanged}
use Rattle.mpw_edges.specs.Pieces.{HasVerticalStep, HasStep}
use Rattle.mpw_edges.specs.Laws.{AreSameIn}
use Rattle.mpw_edges.proofs.Window.{SameAlong, pair_same}
use Rattle.mpw_markers.specs.declared.marker.Key.{Key}
use Rattle.mpw_job.specs.Layers.{Coverage, first_squares, second_squares}
use Rattle.mpw_job.proofs.Tests.{get_contains}
use Rattle.mpw_columns_keys.specs.Columns.{across, widened_along}
use Rattle.mpw_columns.specs.Laws.{WindowDecidesAlong}
use Rattle.mpw_columns.specs.Found.{IsRun, HasStepAt, IsFound, HasLayers}
use Rattle.mpw_columns.specs.Internal.Found.{IsLook, AgreeIn}

-- ---- one row

along : (a a' : Squares) (core : Box2) (distance greatest : ℕ) (x1 x2 j : ℤ) → distance ≤ greatest
    → AreSameIn (across core (greatest + 1)) a a' → core.x0 ≤ℤ x1 → x1 <ℤ core.x1 → core.y0 ≤ℤ j
    → j <ℤ core.y1 → (x2 -ℤ x1) <ℤ pos distance → SameAlong a a' x1 x2 j
along a a' core distance greatest x1 x2 j d same l u low high near i f g =
    same i j (omega (arith, ints, l, f)) (omega (arith, ints, u, g, near, d)) low high

pub vertical_same : (rule : Rule) (greatest : ℕ) (a b a' b' : Squares) (core : Box2)
    → rule.distance ≤ greatest → AreSameIn (across core (greatest + 1)) a a'
    → AreSameIn (across core (greatest + 1)) b b' → (side : ℕ) (x1 x2 j : ℤ)
    → HasVerticalStep rule a b core side x1 x2 j → HasVerticalStep rule a' b' core side x1 x2 j
vertical_same rule greatest a b a' b' core d f g side x1 x2 j s = (
  (
    pair_same rule.check a b a' b' side x1 x2 j
        (along a a' core rule.distance greatest x1 x2 j d f s.1.0 s.1.1 s.1.2 s.1.3 s.0.1)
        (along b b' core rule.distance greatest x1 x2 j d g s.1.0 s.1.1 s.1.2 s.1.3 s.0.1)
        s.0.0,
    s.0.1,
  ),
  s.1,
)

pub back : (w : Box2) (a a' : Squares) → AreSameIn w a a' → AreSameIn w a' a
back w a a' h i j l u low high = sym (h i j l u low high)

along_same : (rule : Rule) (greatest : ℕ) (a b a' b' : Squares) (core : Box2) (axis : Axis)
    → rule.distance ≤ greatest → AreSameIn (widened_along axis core (greatest + 1)) a a'
    → AreSameIn (widened_along axis core (greatest + 1)) b b' → (side : ℕ) (x1 x2 j : ℤ)
    → HasStep rule a b core axis side x1 x2 j → HasStep rule a' b' core axis side x1 x2 j
along_same rule greatest a b a' b' core V d f g side x1 x2 j s =
    vertical_same rule greatest a b a' b' core d f g side x1 x2 j s
along_same rule greatest a b a' b' core H d f g side x1 x2 j s =
    vertical_same rule greatest (exchanged a) (exchanged b) (exchanged a') (exchanged b')
    (exchanged_box core) d (λ i j l u low high. f j i low high l u)
    (λ i j l u low high. g j i low high l u) side x1 x2 j s

pub window_along : WindowDecidesAlong
window_along rule greatest a b a' b' core axis d f g side x1 x2 j = (
  along_same rule greatest a b a' b' core axis d f g side x1 x2 j,
  along_same rule greatest a' b' a b core axis d
      (back (widened_along axis core (greatest + 1)) a a' f)
      (back (widened_along axis core (greatest + 1)) b b' g) side x1 x2 j,
)

-- ---- runs

pub run_same : (P Q : ℤ → Type 0) (y0 y1 : ℤ) → ((j : ℤ) → P j → Q j) → ((j : ℤ) → Q j → P j)
    → IsRun P y0 y1 → IsRun Q y0 y1
run_same P Q y0 y1 f g r = record {
  filled = r.filled;
  rows = λ j l u. f j (r.rows j l u);
  below = λ q. r.below (g (y0 -ℤ pos 1) q);
  above = λ q. r.above (g y1 q);
}

pub first_agree : (check : Check) (layers : List Layer) (window : Box2) (on other : Coverage)
    → HasLayers layers check → AgreeIn layers window on other
    → AreSameIn window (first_squares check on) (first_squares check other)
first_agree (Width l) layers window on other has h = h l has
first_agree (Space l) layers window on other has h = h l has
first_agree (Separation l m) layers window on other has h = h l has.0
first_agree (Enclosing l m) layers window on other has h = h l has.0

pub second_agree : (check : Check) (layers : List Layer) (window : Box2) (on other : Coverage)
    → HasLayers layers check → AgreeIn layers window on other
    → AreSameIn window (second_squares check on) (second_squares check other)
second_agree (Width l) layers window on other has h = λ i j a b c d. refl
second_agree (Space l) layers window on other has h = λ i j a b c d. refl
second_agree (Separation l m) layers window on other has h = h m has.1
second_agree (Enclosing l m) layers window on other has h = h m has.1

pub agree_back : (layers : List Layer) (window : Box2) (on other : Coverage)
    → AgreeIn layers window on other → AgreeIn layers window other on
agree_back layers window on other h layer c =
    back window (on layer) (other layer) (h layer c)

-- what is found if two coverages agree in the window
pub found_same : (rules : List Rule) (layers : List Layer) (distance : ℕ) (axis : Axis)
    (on other : Coverage) (core : Box2) (k : Key) → All (λ (r : Rule). r.distance ≤ distance) rules
    → All (λ (r : Rule). HasLayers layers r.check) rules
    → AgreeIn layers (across core (distance + 1)) on other
    → IsFound rules axis on core k → IsFound rules axis other core k
found_same rules layers distance axis on other core k short layered agree f =
    let in_deck = get_contains rules k.rule f.rule f.at in
    let near : f.rule.distance ≤ distance =
    All-contains (λ (r : Rule). r.distance ≤ distance) rules f.rule short in_deck in
    let has : HasLayers layers f.rule.check =
    All-contains (λ (r : Rule). HasLayers layers r.check) rules f.rule layered in_deck in
    let window = across core (distance + 1) in
    let first = first_agree f.rule.check layers window on other has agree in
    let second = second_agree f.rule.check layers window on other has agree in
    let a = first_squares f.rule.check on in
    let b = second_squares f.rule.check on in
    let a' = first_squares f.rule.check other in
    let b' = second_squares f.rule.check other in
    record {
      rule = f.rule;
      at = f.at;
      on_axis = f.on_axis;
      run =
          run_same (HasStepAt f.rule on core k) (HasStepAt f.rule other core k) k.piece.y0
          k.piece.y1
          (λ j s. vertical_same f.rule distance a b a' b' core near first second k.piece.side
          k.piece.x1 k.piece.x2 j
          s)
          (λ j s. vertical_same f.rule distance a' b' a b core near (back window a a' first)
          (back window b b' second) k.piece.side k.piece.x1 k.piece.x2 j s) f.run;
    }

pub found_agree : (rules : List Rule) (layers : List Layer) (distance : ℕ) (axis : Axis)
    (on other : Coverage) (core : Box2) (k : Key) → IsLook rules layers distance
    → AgreeIn layers (across core (distance + 1)) on other
    → IsFound rules axis on core k → IsFound rules axis other core k
found_agree rules layers distance axis on other core k look =
    found_same rules layers distance axis on other core k look.near look.layered
