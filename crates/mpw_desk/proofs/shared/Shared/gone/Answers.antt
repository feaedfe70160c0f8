-- Answers to the goals of `Shared::gone` in `src/shared.rt`.
use Rattle.mpw_desk.proofs.Growing.{gone-grows}
use Rattle.mpw_desk.proofs.shared.Shared.gone.Goals as goal

pub returns-clause-ok : goal.returns-clause-ok
returns-clause-ok g c = gone-grows _ _ _ _ _ c.event_in.result c.connection-connection.ensures.number
    c.event_in.ensures.ok
