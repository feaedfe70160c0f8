-- The invariants of the loops of `all_points` in `src/shape.rt`.
use Rattle.std.proofs.Common.{◌≡◌}
use Rattle.std.specs.Prelude.{map}
use Rattle.std.specs.List.{range_with_len}
use Rattle.mpw_elements.specs.Values.{point_at}
use Rattle.mpw_elements.proofs.shape.all_points.Given as goal

-- the points so far
abbrev pub invariant-loop-index : goal.invariant-loop-index
invariant-loop-index l = l.points.items ≡ map (point_at l.unit l.bytes) (range_with_len 0 l.index)
