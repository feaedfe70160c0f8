-- Boxes with their coordinates exchanged.
use Rattle.mpw_geom.specs.declared.plane.Box2.{Box2}

-- the box with its coordinates exchanged
abbrev pub exchanged_box : Box2 → Box2
exchanged_box b = record { x0 = b.y0; y0 = b.x0; x1 = b.y1; y1 = b.x1 }
