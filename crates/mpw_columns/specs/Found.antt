-- The runs that a core finds, as keys; all is seen along the axis.
use Rattle.std.specs.Prelude.{◌≡◌, ℤ, pos, ◌-ℤ◌, ◌≤ℤ◌, ◌<ℤ◌, List, Contains, Some, slice_get}
use Rattle.mpw_geom.specs.declared.plane.Box2.{Box2}
use Rattle.mpw_geom.specs.declared.plane.Layer.{Layer}
use Rattle.mpw_deck.specs.declared.rule.Check.{Check}
use Rattle.mpw_deck.specs.declared.rule.Check.TheVariants.{Width, Space, Separation, Enclosing}
use Rattle.mpw_deck.specs.declared.rule.Rule.{Rule}
use Rattle.mpw_edges.specs.declared.run.Axis.{Axis}
use Rattle.mpw_edges.specs.Pieces.{HasVerticalStep}
use Rattle.mpw_markers.specs.declared.marker.Key.{Key}
use Rattle.mpw_job.specs.Layers.{Coverage, first_squares, second_squares}

-- The rows from y0 to y1 - 1 are a maximal run of rows that have P.
pub record IsRun (P : ℤ → Type 0) (y0 y1 : ℤ) : Type 0 where
  pub filled : y0 <ℤ y1
  pub rows : (j : ℤ) → y0 ≤ℤ j → j <ℤ y1 → P j
  pub below : P (y0 -ℤ pos 1) → ⊥
  pub above : P y1 → ⊥

-- The row has a pair step of the rule in the core, on the key's line.
abbrev pub HasStepAt : Rule → Coverage → Box2 → Key → ℤ → Type 0
HasStepAt rule on core k j = HasVerticalStep rule (first_squares rule.check on)
    (second_squares rule.check on) core k.piece.side k.piece.x1 k.piece.x2 j

-- The key is that of a maximal run of a rule of the list in the core.
pub record IsFound (rules : List Rule) (axis : Axis) (on : Coverage) (core : Box2) (k : Key) :
    Type 0 where
  pub rule : Rule
  pub at : slice_get rules k.rule ≡ Some rule
  pub on_axis : k.piece.axis ≡ axis
  pub run : IsRun (HasStepAt rule on core k) k.piece.y0 k.piece.y1

-- The layers of the check are among these.
abbrev pub HasLayers : List Layer → Check → Type 0
HasLayers layers (Width layer) = Contains layers layer
HasLayers layers (Space layer) = Contains layers layer
HasLayers layers (Separation first second) = Contains layers first × Contains layers second
HasLayers layers (Enclosing outer inner) = Contains layers outer × Contains layers inner
