-- The rows of lines that lie in a core.
use Rattle.std.specs.Prelude.{ℤ, Bool}
use Rattle.mpw_geom.specs.declared.plane.Box2.{Box2}
use Rattle.mpw_geom.specs.Plane.{Square, has_square}
use Rattle.mpw_edges.specs.declared.run.Axis.{Axis}
use Rattle.mpw_edges.specs.declared.run.Axis.TheVariants.{V, H}
use Rattle.mpw_markers.specs.declared.marker.Line.{Line}

-- The unit square at the lower left point of a row of a line.
abbrev pub square_on : Axis → ℤ → ℤ → Square
square_on V x1 j = record { column = x1; row = j }
square_on H x1 j = record { column = j; row = x1 }

-- The row of the line lies in the half-open core.
abbrev pub is_in_core : Box2 → Line → ℤ → Bool
is_in_core core line j = has_square core (square_on line.axis line.x1 j)
