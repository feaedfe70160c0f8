-- Answers to the goals of `keepers_have_the_changes_in_order` in `src/laws.rt`.
use Rattle.mpw_events.proofs.GoingOnLemmas.{handling-goes-on, stays, goes-on}
use Rattle.mpw_events.proofs.laws.keepers_have_the_changes_in_order.Goals as goal

pub returns : goal.returns
returns c = record { handled = handling-goes-on; stays = stays; on = goes-on }
