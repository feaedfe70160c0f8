-- Answers to the goals of `plans_lie_in_plane` in `src/laws.rt`.
use Rattle.mpw_tiles.proofs.Planes.{plans_in_plane}
use Rattle.mpw_tiles.proofs.laws.plans_lie_in_plane.Goals as goal

pub returns : goal.returns
returns c =
    plans_in_plane c.windows_reach_no_further.ensures c.extents_are_least_boxes.ensures.ordered
    c.roots_show_what_their_submissions_do.ensures.extent
