-- Answers to the goals of `an_event_adds_its_call_or_nothing` in `src/laws.rt`.
use Rattle.mpw_events.proofs.AddingLemmas.{adds-call-or-nothing}
use Rattle.mpw_events.proofs.laws.an_event_adds_its_call_or_nothing.Goals as goal

pub returns : goal.returns
returns c = adds-call-or-nothing
