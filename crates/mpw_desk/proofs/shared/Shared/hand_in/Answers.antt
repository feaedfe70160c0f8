-- Answers to the goals of `Shared::hand_in`.
use Rattle.mpw_desk.proofs.Working.{works}
use Rattle.mpw_desk.proofs.shared.Shared.hand_in.Goals as goal

pub event_in-answered-requires : goal.event_in-answered-requires
event_in-answered-requires g c = record { own = c.requires c.args.pass.now.connection }

pub returns-in-Ok-clause-works : goal.returns-in-Ok-clause-works
returns-in-Ok-clause-works g c = works _ _ _ _ _ _ c.requires c.in-Ok.ensures.ok
