-- The invariants of the loops of `box_of` in `src/area.rt`.
use Rattle.std.proofs.Common.{◌≡◌, map}
use Rattle.std.specs.Prelude.{fold, None}
use Rattle.std.specs.List.{range_with_len}
use Rattle.mpw_elements.specs.Values.{point_at}
use Rattle.mpw_firm_faults.specs.Areas.{holding}
use Rattle.mpw_firm_faults.proofs.area.box_of.Given as goal

-- the box is that of the points so far
abbrev pub invariant-loop-place : goal.invariant-loop-place
invariant-loop-place l =
    l.area ≡ fold holding None (map (point_at l.unit l.bytes) (range_with_len 0 l.place))
