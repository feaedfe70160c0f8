-- Answers to the goals of `is_same_box` in `src/job.rt`.
use Rattle.mpw_geom.proofs.Boxes.{same_area}
use Rattle.mpw_job.proofs.job.is_same_box.Goals as goal

pub returns : goal.returns
returns c = same_area c.args.a.now c.args.b.now c.eq.result c.eq.ensures
