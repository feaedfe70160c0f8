-- A core in strips, and what rules find in them.
use Rattle.std.specs.Prelude.{ℕ, ◌≤◌, ℤ, List, Contains, ◌↔◌}
use Rattle.mpw_geom.specs.declared.plane.Box2.{Box2}
use Rattle.mpw_region.specs.declared.runs.Line.{Line}
use Rattle.mpw_region.specs.Squares.{covers}
use Rattle.mpw_region.specs.Banded.{AreBands}
use Rattle.mpw_deck.specs.declared.rule.Rule.{Rule}
use Rattle.mpw_edges.specs.declared.run.Axis.TheVariants.{V, H}
use Rattle.mpw_edges.specs.Edges.{Squares}
use Rattle.mpw_edges.specs.Pieces.{HasStep, HasVerticalStep}
use Rattle.mpw_checks.specs.declared.strips.Strip.{Strip}

-- the strip has bands
pub record IsStrip (s : Strip) : Type 0 where
  pub first : AreBands s.first.items
  pub second : AreBands s.second.items

-- the strip's core has a pair step of the rule between vertical edges of its bands
abbrev pub HasStepIn : Rule → Line → ℤ → Strip → Type 0
HasStepIn rule line j s = HasVerticalStep rule (covers s.first.items) (covers s.second.items) s.core
    line.side line.first line.second j

-- some strip has it
abbrev pub FindsIn : List Strip → Rule → Line → ℤ → Type 0
FindsIn strips rule line j = (s : Strip) × Contains strips s × HasStepIn rule line j s

-- strips along rows, and strips along columns
pub record BothWays : Type 0 where
  pub rows : List Strip
  pub columns : List Strip

-- for each rule with at most that distance, the strips have exactly the pair steps of the squares in the core
pub record AreStrips (distance : ℕ) (a b : Squares) (core : Box2) (strips : BothWays) : Type 0 where
  pub rows : (rule : Rule) → rule.distance ≤ distance → (line : Line) (j : ℤ)
      → FindsIn strips.rows rule line j ↔ HasStep rule a b core V line.side line.first line.second j
  pub columns : (rule : Rule) → rule.distance ≤ distance → (line : Line) (j : ℤ)
      → FindsIn strips.columns rule line j ↔ HasStep rule a b core H line.side line.first
      line.second j
