-- What of a walk touches a window: the turns and the shapes whose boxes share a point with it.
use Rattle.std.specs.Prelude.{Bool, true, false, ◌&&◌, int_le, List, filter, Option, Some, None}
use Rattle.std.specs.Int.{int_min, int_max}
use Rattle.mpw_geom.specs.declared.plane.Box2.{Box2}
use Rattle.mpw_hier.specs.Items.{Item}
use Rattle.mpw_hier.specs.Boxes.{item_box}
use Rattle.mpw_walk.specs.Turns.{Turn, enter, give}

-- The closed boxes share a column of points and a row of points.
unfoldable pub do_meet : Box2 → Box2 → Bool
do_meet a b =
    int_le (int_max a.x0 b.x0) (int_min a.x1 b.x1) && int_le (int_max a.y0 b.y0) (int_min a.y1 b.y1)

-- A box touches the window. What has no box doesn't.
abbrev pub is_met : Box2 → Option Box2 → Bool
is_met window None = false
is_met window (Some box) = do_meet box window

-- The box of a turn: the placed extent of the instance that it enters, or the box of the shape that it gives.
abbrev pub turn_box : Turn → Option Box2
turn_box (enter extent) = extent
turn_box (give item) = item_box item

-- The shapes, and the turns, whose boxes touch the window, in order.
abbrev pub items_met : Box2 → List Item → List Item
items_met window items = filter (λ i. is_met window (item_box i)) items

abbrev pub turns_met : Box2 → List Turn → List Turn
turns_met window turns = filter (λ turn. is_met window (turn_box turn)) turns

-- The turns that a walk takes: with a window those whose boxes touch it, and all without one.
abbrev pub is_in : Option Box2 → Option Box2 → Bool
is_in None box = true
is_in (Some window) box = is_met window box

abbrev pub is_taken : Option Box2 → Turn → Bool
is_taken window turn = is_in window (turn_box turn)

abbrev pub taken : Option Box2 → List Turn → List Turn
taken window turns = filter (is_taken window) turns
