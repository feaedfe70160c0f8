-- Answers to the goals of `waivers_go_with_their_run` in `src/desk.rt`.
use Rattle.mpw_laws.proofs.WaiverLemmas.{finishing-places, runs-drop}
use Rattle.mpw_laws.proofs.desk.waivers_go_with_their_run.Goals as goal

pub returns : goal.returns
returns c = record { begun = runs-drop; finished = finishing-places }
