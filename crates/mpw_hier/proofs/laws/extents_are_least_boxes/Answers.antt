-- Answers to the goals of `extents_are_least_boxes` in `src/laws.rt`.
use Rattle.mpw_hier.proofs.Extents.{extent_ordered, extent_append, extent_placed}
use Rattle.mpw_hier.proofs.Holding.{extent_holds, extent_least}
use Rattle.mpw_hier.proofs.laws.extents_are_least_boxes.Goals as goal

pub returns : goal.returns
returns c = record {
  ordered = extent_ordered;
  holds = extent_holds;
  least = extent_least;
  joined = extent_append;
  placed = extent_placed;
}
