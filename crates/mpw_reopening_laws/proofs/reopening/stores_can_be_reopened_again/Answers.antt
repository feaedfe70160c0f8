-- Answers to the goals of `stores_can_be_reopened_again` in `src/reopening.rt`.
use Rattle.mpw_reopening_laws.proofs.ReopeningLemmas.{stores_lead}
use Rattle.mpw_reopening_laws.proofs.reopening.stores_can_be_reopened_again.Goals as goal

pub returns : goal.returns
returns c = stores_lead (record {
  layout = c.answers_make_the_layout.ensures;
  computes = c.stitched_computes.ensures;
  one = c.layout_determines_markers.ensures;
  read = c.stored_requests_are_read.ensures;
})
