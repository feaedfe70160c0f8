-- Answers to the goals of `what_is_not_kept_leaves_the_run` in `src/desk.rt`.
use Rattle.mpw_laws.proofs.RunLemmas.{unkept-leaves}
use Rattle.mpw_laws.proofs.desk.what_is_not_kept_leaves_the_run.Goals as goal

pub returns : goal.returns
returns c = unkept-leaves c.unkept_leaves_the_run.ensures
