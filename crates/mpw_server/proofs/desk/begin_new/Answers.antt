-- Answers to the goals of `begin_new` in `src/desk.rt`.
use Rattle.std.proofs.Common.{ap}
use Rattle.mpw_events.specs.History.{Desk}
use Rattle.mpw_server.proofs.Numbers.{none-before}
use Rattle.mpw_server.proofs.desk.begin_new.Goals as goal

pub returns-clause-above : goal.returns-clause-above
returns-clause-above g c =
    none-before 1 (g.H.Handler.desk c.in_ok-core.core.value) (ap (λ (d : Desk). d.history) c.in_ok-core.ensures)
