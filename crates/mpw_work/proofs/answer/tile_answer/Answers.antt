-- Answers to the goals of `tile_answer` in `src/answer.rt`.
use Rattle.mpw_job.proofs.Filled.{all_filled}
use Rattle.mpw_work.proofs.answer.tile_answer.Goals as goal

pub from_vec-requires : goal.from_vec-requires
from_vec-requires c =
    all_filled c.args.job.now c.in_ok-markers.markers.items c.in_ok-markers.ensures
