-- The invariants of the loops of `histories_are_right` in `src/right.rt`.
use Rattle.std.proofs.Common.{ℕ, ◌<◌, get_or}
use Rattle.mpw_events.specs.declared.event.Call.{Call}
use Rattle.mpw_run_laws.specs.Right.{IsRight}
use Rattle.mpw_run_laws.proofs.right.histories_are_right.Given as goal

-- the answers that the calls so far hand in are right
abbrev pub invariant-loop-call : goal.invariant-loop-call
invariant-loop-call l = (k : ℕ) (d : Call) → k < l.call-index → IsRight (get_or l.calls k d).event
