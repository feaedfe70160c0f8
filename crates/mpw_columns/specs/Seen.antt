-- Seen along an axis: on V the layout as it is, on H with the coordinates exchanged. So the edges are always vertical.
use Rattle.mpw_geom.specs.Plane.{Square}
use Rattle.mpw_edges.specs.declared.run.Axis.{Axis}
use Rattle.mpw_edges.specs.declared.run.Axis.TheVariants.{V, H}
use Rattle.mpw_edges.specs.Edges.{Squares, exchanged}
use Rattle.mpw_job.specs.Layers.{Coverage}

abbrev pub seen : Axis → Squares → Squares
seen V a = a
seen H a = exchanged a

abbrev pub seen_square : Axis → Square → Square
seen_square V s = s
seen_square H s = record { column = s.row; row = s.column }

-- The squares of layers.
abbrev pub seen_on : Axis → Coverage → Coverage
seen_on axis on layer = seen axis (on layer)
