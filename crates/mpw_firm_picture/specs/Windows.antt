-- The windows of pictures, in nm: around a marker, and around all that is checked. They lie in the plane of coordinates from -2^48
-- to 2^48.
use Rattle.std.specs.Prelude.{ℕ, ◌+◌, ◌*◌, ◌/◌, max, ℤ, pos, ◌+ℤ◌, ◌-ℤ◌, unsigned_abs, List, slice_get, Option, Some, None}
use Rattle.std.specs.Option.{option_map_or}
use Rattle.mpw_geom.specs.declared.plane.Box2.{Box2}
use Rattle.mpw_deck.specs.declared.rule.Rule.{Rule}
use Rattle.mpw_markers.specs.declared.marker.Marker.{Marker}
use Rattle.mpw_edges.specs.Pieces.{box_of}
use Rattle.mpw_tiles.specs.Placed.{nearest}

-- a box extended by a number of nm on each side, as far as the plane reaches
unfoldable pub widened_in_plane : ℕ → Box2 → Box2
widened_in_plane by b = record {
  x0 = nearest (b.x0 -ℤ pos by);
  y0 = nearest (b.y0 -ℤ pos by);
  x1 = nearest (b.x1 +ℤ pos by);
  y1 = nearest (b.y1 +ℤ pos by);
}

-- a side, at least 1 nm, and the longer side of a box
unfoldable pub side : ℤ → ℤ → ℕ
side a b = max 1 (unsigned_abs (b -ℤ a))

unfoldable pub longer_side : Box2 → ℕ
longer_side b = max (side b.x0 b.x1) (side b.y0 b.y1)

-- the distance of the rule at that index in the deck; 0 if there is none
abbrev pub distance_of : List Rule → ℕ → ℕ
distance_of rules place = option_map_or (λ rule. rule.distance) (slice_get rules place) 0

-- the window around a marker: its box, extended by 4 times its rule's distance and a quarter of its longer side
unfoldable pub marker_margin : ℕ → Box2 → ℕ
marker_margin distance b = 4 * distance + longer_side b / 4

abbrev pub marker_window : List Rule → Marker → Box2
marker_window rules m =
    widened_in_plane (marker_margin (distance_of rules m.key.rule) (box_of m.key.piece))
    (box_of m.key.piece)

-- the window around shapes of that extent: extended by a twentieth of its longer side plus 1 nm; around the origin if there are no shapes
abbrev pub around : Box2 → Box2
around b = widened_in_plane (longer_side b / 20 + 1) b

unfoldable pub whole_window : Option Box2 → Box2
whole_window None = around (record { x0 = pos 0; y0 = pos 0; x1 = pos 0; y1 = pos 0 })
whole_window (Some extent) = around extent
