-- Answers to the goals of `roots_show_what_their_submissions_do` in `src/laws.rt`.
use Rattle.mpw_walk.proofs.Roots.{roots_reach, roots_counted}
use Rattle.mpw_walk.proofs.laws.roots_show_what_their_submissions_do.Goals as goal

pub returns : goal.returns
returns c = record {
  extent =
      roots_reach c.extents_are_least_boxes.ensures.joined c.extents_are_least_boxes.ensures.placed;
  count = roots_counted;
}
