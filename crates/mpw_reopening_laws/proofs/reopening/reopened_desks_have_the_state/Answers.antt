-- Answers to the goals of `reopened_desks_have_the_state` in `src/reopening.rt`.
use Rattle.sqlite.specs.Held.{state}
use Rattle.mpw_reopening_laws.proofs.ReopeningLemmas.{have_the_state}
use Rattle.mpw_reopening_laws.proofs.reopening.reopened_desks_have_the_state.Goals as goal

pub returns : goal.returns
returns g c =
    have_the_state (state g.S.Store c.args._before.now) (state g.S.Store c.args._later.now)
