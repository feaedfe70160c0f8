-- The invariants of the loops of `events_of` in `src/responses.rt`.
use Rattle.std.proofs.Common.{◌≡◌, map, take}
use Rattle.gate_events.specs.Responses.{event_in}
use Rattle.gate_events.proofs.responses.events_of.Given as goal

abbrev pub invariant-loop-call : goal.invariant-loop-call
invariant-loop-call l = l.events.items ≡ map event_in (take l.call-index l.fn.calls)
