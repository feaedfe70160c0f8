-- The invariants of the loops of `points_box` in `src/size_shape.rt`.
use Rattle.std.proofs.Common.{◌≡◌, drop}
use Rattle.mpw_hier.specs.Boxes.{hull, hull_of_points}
use Rattle.mpw_hier.proofs.size_shape.points_box.Given as goal

-- the points so far, and those to come
abbrev pub invariant-loop-index : goal.invariant-loop-index
invariant-loop-index l =
    hull l.extent (hull_of_points (drop l.index l.points)) ≡ hull_of_points l.points
