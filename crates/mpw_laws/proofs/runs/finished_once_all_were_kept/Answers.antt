-- Answers to the goals of `finished_once_all_were_kept` in `src/runs.rt`.
use Rattle.mpw_laws.proofs.Keeping.{finished}
use Rattle.mpw_laws.proofs.runs.finished_once_all_were_kept.Goals as goal

pub returns : goal.returns
returns c = finished c.answers_make_the_layout.ensures c.stitched_computes.ensures
