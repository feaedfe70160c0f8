-- Answers to the goals of `read_boundary` in `src/boundary.rt`.
use Rattle.mpw_records.specs.Format.{least_size}
use Rattle.mpw_records.specs.Records.{raw}
use Rattle.mpw_elements.proofs.Shapes.{corners_ring}
use Rattle.mpw_elements.proofs.boundary.read_boundary.Goals as goal

pub end_element-requires : goal.end_element-requires
unfolding least_size
end_element-requires c =
    let ring = corners_ring c.args.unit (raw c.in_ok-xy.xy) c.in_ok-points.points c.requires.unit
    c.in_ok-xy.ensures.least c.in_ok-points.ensures in
    record { corners = ring.corners; manhattan = ring.manhattan; within_reach = ring.within_reach }
