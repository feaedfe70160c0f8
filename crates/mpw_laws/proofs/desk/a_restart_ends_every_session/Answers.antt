-- Answers to the goals of `a_restart_ends_every_session` in `src/desk.rt`.
use Rattle.mpw_laws.proofs.RestartLemmas.{restart-told, restart-ends, restart-cuts, restart-rest}
use Rattle.mpw_laws.proofs.desk.a_restart_ends_every_session.Goals as goal

pub returns : goal.returns
returns c =
    record { told = restart-told; ended = restart-ends; cut = restart-cuts; rest = restart-rest }
