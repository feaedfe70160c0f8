-- For private functions and proofs: the order of markers.
use Rattle.std.specs.Prelude.{◌≡◌, ◌≤ℤ◌, List, AllPairs, ◌⊎◌}
use Rattle.std.specs.declared.cmp.Ordering.TheVariants.{Less}
use Rattle.mpw_markers.specs.declared.marker.Marker.{Marker}
use Rattle.mpw_markers.specs.Markers.{line_of}
use Rattle.mpw_markers.specs.Order.{line_cmp}

-- the first marker's line comes first, or on one line it begins no later
abbrev pub BeginsFirst : Marker → Marker → Type 0
BeginsFirst m n =
    (line_cmp (line_of m) (line_of n) ≡ Less)
    ⊎ ((line_of m ≡ line_of n) × (m.key.piece.y0 ≤ℤ n.key.piece.y0))

-- markers by line, and on a line by their beginnings
abbrev pub AreInOrder : List Marker → Type 0
AreInOrder markers = AllPairs BeginsFirst markers
