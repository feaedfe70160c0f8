-- A core in two halves, left and right, and what is found in each.
use Rattle.std.specs.Prelude.{◌+◌, ℕ, ℤ, ◌≤ℤ◌, List, ◌⊎◌, ◌↔◌}
use Rattle.mpw_geom.specs.declared.plane.Point.{Point}
use Rattle.mpw_geom.specs.declared.plane.Box2.{Box2}
use Rattle.mpw_region.specs.declared.runs.Line.{Line}
use Rattle.mpw_region.specs.Squares.{covers}
use Rattle.mpw_deck.specs.declared.rule.Rule.{Rule}
use Rattle.mpw_edges.specs.declared.run.Axis.{Axis}
use Rattle.mpw_edges.specs.Pieces.{IsInCore, HasStep}
use Rattle.mpw_geom.specs.Plane.{widened}
use Rattle.mpw_edges.specs.Laws.{AreSameIn}

-- the pair steps of the boxes' squares in the core
abbrev pub StepsIn : Rule → List Box2 → List Box2 → Box2 → Axis → Line → ℤ → Type 0
StepsIn rule first second core axis line j =
    HasStep rule (covers first) (covers second) core axis line.side line.first line.second j

-- the window that decides what rules with at most that distance find in the core
abbrev pub window_of : Box2 → ℕ → Box2
window_of core distance = widened core (distance + 1)

-- the lists have the same squares in the window
abbrev pub AreAlikeIn : Box2 → List Box2 → List Box2 → Type 0
AreAlikeIn window a b = AreSameIn window (covers a) (covers b)

-- the core left and right of a point
abbrev pub left_of : Box2 → Point → Box2
left_of core at = record { x0 = core.x0; y0 = core.y0; x1 = at.x; y1 = core.y1 }

abbrev pub right_of : Box2 → Point → Box2
right_of core at = record { x0 = at.x; y0 = core.y0; x1 = core.x1; y1 = core.y1 }

-- the point is no further right than the core's right side, and no further left than both of its sides
pub record IsMiddle (core : Box2) (at : Point) : Type 0 where
  pub column : at.x ≤ℤ core.x1
  pub columns : (z : ℤ) → z ≤ℤ core.x0 → z ≤ℤ core.x1 → z ≤ℤ at.x

-- the halves have exactly the points of the core
abbrev pub AreHalves : Box2 → Box2 → Box2 → Type 0
AreHalves core low high = (x y : ℤ) → IsInCore core x y ↔ (IsInCore low x y ⊎ IsInCore high x y)
