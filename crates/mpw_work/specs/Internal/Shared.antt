-- Strips that serve several rules.
use Rattle.std.specs.Prelude.{◌≡◌, ◌≤◌, Option, Some, None}
use Rattle.mpw_geom.specs.declared.plane.Box2.{Box2}
use Rattle.mpw_geom.specs.declared.plane.Layer.{Layer}
use Rattle.mpw_deck.specs.declared.rule.Check.{Check}
use Rattle.mpw_deck.specs.declared.rule.Check.TheVariants.{Width, Space, Separation, Enclosing}
use Rattle.mpw_deck.specs.declared.rule.Rule.{Rule}
use Rattle.mpw_edges.specs.Edges.{Squares}
use Rattle.mpw_checks.specs.Strips.{AreStrips}
use Rattle.mpw_work.specs.declared.shared.Shared.{Shared}
use Rattle.mpw_job.specs.Layers.{Coverage, no_squares}

-- The squares of a layer, if there is one.
abbrev pub squares_on : Coverage → Option Layer → Squares
squares_on on None = no_squares
squares_on on (Some layer) = on layer

-- The check's first layer is the first one, and its second layer, if it has one, is the second.
abbrev pub LooksAt : Check → Layer → Option Layer → Type 0
LooksAt (Width layer) first second = layer ≡ first
LooksAt (Space layer) first second = layer ≡ first
LooksAt (Separation a b) first second = (a ≡ first) × (second ≡ Some b)
LooksAt (Enclosing a b) first second = (a ≡ first) × (second ≡ Some b)

-- The strips have the rule's layers, and windows as wide as its distance needs.
abbrev pub Serves : Shared → Rule → Type 0
Serves s rule = (rule.distance ≤ s.distance) × LooksAt rule.check s.first s.second

-- They are the strips of the core for these layers' squares.
abbrev pub IsSharedOf : Box2 → Coverage → Shared → Type 0
IsSharedOf core on s = AreStrips s.distance (on s.first) (squares_on on s.second) core s.strips
