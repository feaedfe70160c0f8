-- Answers to the goals of `each_run_keeps` in `src/runs.rt`.
use Rattle.mpw_laws.proofs.Coming.{keeps}
use Rattle.mpw_laws.proofs.runs.each_run_keeps.Goals as goal

pub returns : goal.returns
returns c = keeps c.answers_make_the_layout.ensures c.stitched_computes.ensures
