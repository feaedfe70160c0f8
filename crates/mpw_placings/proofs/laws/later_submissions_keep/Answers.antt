-- Answers to the goals of `later_submissions_keep` in `src/laws.rt`.
use Rattle.mpw_placings.proofs.Keeping.{later_kept}
use Rattle.mpw_placings.proofs.laws.later_submissions_keep.Goals as goal

pub returns : goal.returns
returns c = record {
  sound = later_kept c.earlier_submissions_stay.ensures c.roots_stay_roots.ensures.roots
      c.roots_stay_roots.ensures.shapes c.roots_show_what_their_submissions_do.ensures.count;
  shapes = λ ss later ps kept. c.roots_stay_roots.ensures.shapes ss later _ kept.roots.fit;
}
