-- The state after a restart.
use Rattle.std.proofs.Common.{◌≡◌, ℕ, Bool, None, refl}
use Rattle.mpw_rbac.specs.Policy.{session_of}
use Rattle.mpw_events.specs.declared.event.Event.TheVariants as event
use Rattle.mpw_events.specs.declared.event.Response.TheVariants as response
use Rattle.mpw_run.specs.Step as run
use Rattle.mpw_events.specs.Step.{State, event_outcome, step, response_of, after}

pub restart-told : (s : State) (kept : Bool) → response_of s event.Restart kept ≡ response.Restarted
unfolding step event_outcome
restart-told s kept = refl

pub restart-ends : (s : State) (kept : Bool) (connection : ℕ)
    → session_of (after s event.Restart kept).policy connection ≡ None
unfolding step event_outcome
restart-ends s kept connection = refl

pub restart-cuts : (s : State) (kept : Bool)
    → (after s event.Restart kept).run ≡ run.restarted s.run
unfolding step event_outcome
restart-cuts s kept = refl

pub restart-rest : (s : State) (kept : Bool)
    → record (after s event.Restart kept) {
      policy = record (after s event.Restart kept).policy { sessions = s.policy.sessions };
      run = s.run;
    } ≡ s
unfolding step event_outcome
restart-rest s kept = refl
