-- Answers to the goals of `services_store_their_changes` in `src/laws.rt`.
use Rattle.sqlite.specs.Held.{state}
use Rattle.mpw_server.proofs.StoredLemmas.{stores_its_changes}
use Rattle.mpw_server.proofs.laws.services_store_their_changes.Goals as goal

pub returns : goal.returns
returns g c = stores_its_changes (state g.S.Store c.args._before.now) (state g.S.Store c.args._after.now)
