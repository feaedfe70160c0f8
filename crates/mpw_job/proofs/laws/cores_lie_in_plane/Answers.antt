-- Answers to the goals of `cores_lie_in_plane` in `src/laws.rt`.
use Rattle.mpw_job.proofs.Cores.{cores_in_plane}
use Rattle.mpw_job.proofs.laws.cores_lie_in_plane.Goals as goal

pub returns : goal.returns
returns c = cores_in_plane c.plans_lie_in_plane.ensures
