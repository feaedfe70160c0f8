-- Answers to the goals of `rows_are_never_bad` in `src/reopening.rt`.
use Rattle.sqlite.specs.Held.{state}
use Rattle.mpw_reopening_laws.proofs.ReopeningLemmas.{never_bad}
use Rattle.mpw_reopening_laws.proofs.reopening.rows_are_never_bad.Goals as goal

pub returns : goal.returns
returns g c = never_bad (state g.S.Store c.args._store.now)
