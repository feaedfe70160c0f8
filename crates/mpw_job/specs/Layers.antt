-- The squares of a rule's layers, and its pair steps row by row.
use Rattle.std.specs.Prelude.{◌≡◌, ℤ, false, List, Some, slice_get}
use Rattle.mpw_geom.specs.declared.plane.Layer.{Layer}
use Rattle.mpw_deck.specs.declared.rule.Check.{Check}
use Rattle.mpw_deck.specs.declared.rule.Check.TheVariants.{Width, Space, Separation, Enclosing}
use Rattle.mpw_deck.specs.declared.rule.Rule.{Rule}
use Rattle.mpw_edges.specs.Edges.{Squares}
use Rattle.mpw_edges.specs.Pieces.{IsStepOn}
use Rattle.mpw_markers.specs.declared.marker.Line.{Line}

-- Which unit squares each layer has.
abbrev pub Coverage : Type 0
Coverage = Layer → Squares

-- No squares.
abbrev pub no_squares : Squares
no_squares i j = false

-- The squares of a check's first layer, and those of its second. A check of one layer has no second.
abbrev pub first_squares : Check → Coverage → Squares
first_squares (Width layer) on = on layer
first_squares (Space layer) on = on layer
first_squares (Separation first second) on = on first
first_squares (Enclosing outer inner) on = on outer

abbrev pub second_squares : Check → Coverage → Squares
second_squares (Width layer) on = no_squares
second_squares (Space layer) on = no_squares
second_squares (Separation first second) on = on second
second_squares (Enclosing outer inner) on = on inner

-- The row has a pair step of the line's rule on the line.
abbrev pub HasPairStep : List Rule → Coverage → Line → ℤ → Type 0
HasPairStep rules on line j = (rule : Rule) × (slice_get rules line.rule ≡ Some rule)
    × IsStepOn rule (first_squares rule.check on) (second_squares rule.check on) line.axis line.side
    line.x1 line.x2 j
