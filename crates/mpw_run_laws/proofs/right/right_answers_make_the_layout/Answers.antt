-- Answers to the goals of `right_answers_make_the_layout` in `src/right.rt`.
use Rattle.mpw_run_laws.proofs.RightLemmas.{books_are}
use Rattle.mpw_run_laws.proofs.right.right_answers_make_the_layout.Goals as goal

pub returns : goal.returns
returns c = books_are c.answers_make_the_layout.ensures c.stitched_computes.ensures
