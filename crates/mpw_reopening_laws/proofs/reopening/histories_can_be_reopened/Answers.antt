-- Answers to the goals of `histories_can_be_reopened` in `src/reopening.rt`.
use Rattle.mpw_reopening_laws.proofs.ReopeningLemmas.{histories_lead}
use Rattle.mpw_reopening_laws.proofs.reopening.histories_can_be_reopened.Goals as goal

pub returns : goal.returns
returns c = histories_lead (record {
  layout = c.answers_make_the_layout.ensures;
  computes = c.stitched_computes.ensures;
  one = c.layout_determines_markers.ensures;
  read = c.stored_requests_are_read.ensures;
})
