-- The invariants of the loops of `events_of` in `src/working.rt`.
use Rattle.std.proofs.Common.{◌≡◌, map, take}
use Rattle.std.specs.Prelude.{All}
use Rattle.mpw_serve.specs.Working.{event_of}
use Rattle.mpw_serve.specs.Internal.Working.{IsOfRun}
use Rattle.mpw_serve.proofs.working.events_of.Given as goal

abbrev pub invariant-loop-answer : goal.invariant-loop-answer
invariant-loop-answer l =
    (l.events.items ≡ map event_of (take l.answer-index l.fn.done)) × All IsOfRun l.events.items
