-- The order of markers.
use Rattle.std.specs.Prelude.{◌≡◌, ◌<ℤ◌, ◌⊎◌}
use Rattle.std.specs.Ordering.{nat_cmp, int_cmp, ordering_then}
use Rattle.std.specs.declared.cmp.Ordering.{Ordering}
use Rattle.std.specs.declared.cmp.Ordering.TheVariants.{Less}
use Rattle.mpw_edges.specs.Pieces.{axis_cmp}
use Rattle.mpw_markers.specs.declared.marker.Line.{Line}
use Rattle.mpw_markers.specs.declared.marker.Marker.{Marker}
use Rattle.mpw_markers.specs.Markers.{line_of}

-- lines by the rule's index in the deck, V before H, side, x1 and x2
abbrev pub line_cmp : Line → Line → Ordering
line_cmp a b =
    ordering_then (nat_cmp a.rule b.rule)
    (ordering_then (axis_cmp a.axis b.axis)
    (ordering_then (nat_cmp a.side b.side)
    (ordering_then (int_cmp a.x1 b.x1) (int_cmp a.x2 b.x2))))

-- the first marker's line comes first, or on one line it ends before the second begins, with a gap
abbrev pub StandsBefore : Marker → Marker → Type 0
StandsBefore m n =
    (line_cmp (line_of m) (line_of n) ≡ Less)
    ⊎ ((line_of m ≡ line_of n) × (m.key.piece.y1 <ℤ n.key.piece.y0))
