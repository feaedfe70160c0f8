-- Answers to the goals of `read_path` in `src/path.rt`.
use Rattle.std.proofs.Common.{subst, sym}
use Rattle.mpw_structures.specs.Element.{IsWithinReach, IsPath}
use Rattle.mpw_records.specs.Records.{raw}
use Rattle.mpw_elements.specs.Internal.Element.{IsWidth, IsBreadth}
use Rattle.mpw_elements.proofs.Shapes.{centre_line, kept}
use Rattle.mpw_elements.proofs.path.read_path.Goals as goal

pub end_element-requires : goal.end_element-requires
end_element-requires c =
    let told = c.in_ok-breadth.breadth in
    let breadth : IsBreadth told = c.in_ok-breadth.ensures.shape in
    let width = kept IsWidth told.width breadth.width.within_reach breadth.width in
    let line = centre_line c.args.unit (raw c.in_ok-demand.field-0) c.in_ok-points.points c.requires
    c.in_ok-points.ensures in
    subst IsPath (sym c.in_ok-path.ensures) (record {
      half = width.half;
      width = width.value;
      width_within_reach = width.within_reach;
      begin_within_reach = kept IsWithinReach told.begin breadth.begin breadth.begin;
      end_within_reach = kept IsWithinReach told.end breadth.end breadth.end;
      points = line.points;
      segments = line.segments;
      points_within_reach = line.within_reach;
    })
