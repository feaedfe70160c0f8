-- The position of a marker in a book's order.
use Rattle.std.specs.Prelude.{ℕ}
use Rattle.mpw_edges.specs.declared.run.Axis.{Axis}
use Rattle.mpw_edges.specs.declared.run.Axis.TheVariants.{V, H}
use Rattle.mpw_markers.specs.declared.marker.Line.{Line}
use Rattle.mpw_markers.specs.declared.marker.Key.{Key}
use Rattle.mpw_markers.specs.declared.place.LinePlace.{LinePlace}
use Rattle.mpw_markers.specs.declared.place.Place.{Place}
use Rattle.mpw_markers.specs.Markers.{line_of_key}

-- V before H
abbrev pub axis_place : Axis → ℕ
axis_place V = 0
axis_place H = 1

abbrev pub line_place : Line → LinePlace
line_place l =
    record { rule = l.rule; axis = axis_place l.axis; side = l.side; x1 = l.x1; x2 = l.x2 }

-- the line and the rows
abbrev pub place_of : Key → Place
place_of k = record { line = line_place (line_of_key k); y0 = k.piece.y0; y1 = k.piece.y1 }
