-- Answers to the goals of `the_trail_has_each_request` in `src/desk.rt`.
use Rattle.mpw_laws.proofs.TrailLemmas.{trail-after}
use Rattle.mpw_laws.proofs.desk.the_trail_has_each_request.Goals as goal

pub returns : goal.returns
returns c = trail-after
