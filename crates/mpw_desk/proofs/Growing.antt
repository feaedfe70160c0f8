-- What a pass knows of a critical section.
use Rattle.std.proofs.Common.{◌≡◌, ◌++◌, ◌∷◌, [], ℕ, Bool, Result, Ok, Err, IfOk, inl, inr, subst, ⊎_elim}
use Rattle.mpw_events.specs.declared.event.Event.{Event}
use Rattle.mpw_events.specs.declared.event.Event.TheVariants as event
use Rattle.mpw_events.specs.declared.event.Response.{Response}
use Rattle.mpw_events.specs.GoingOn.{IsEnded}
use Rattle.mpw_events.specs.History.{with_call}
use Rattle.mpw_desk.specs.Passes.{Grows}
use Rattle.mpw_desk.specs.Steps.{Records, Steps, call_of}
use Rattle.mpw_desk.specs.Values.{LockedDesk, PassView}

grows : (event : Event) (response : Response) (l l' : LockedDesk) (p p' : PassView)
    → Steps event response l l' p p' → Grows p event response p'
grows event response l l' p p' steps =
    ⊎_elim (λ (left : (l'.kept.desk ≡ l.kept.desk) × (l'.calls ≡ l.calls) × (p' ≡ p)
    × IsEnded event response). inl (left.2, left.3))
    (λ (one : (kept : Bool) × (l'.kept.desk ≡ with_call l.kept.desk event kept response)
    × (l'.calls ≡ l.calls ++ call_of event response kept ∷ []) × Records event response kept p p').
    inr (one.0, one.3)) steps.recorded

-- of a connection's end
pub gone-grows : {E : Type 0} (connection : ℕ) (l l' : LockedDesk) (p p' : PassView)
    (result : Result Response E) → connection ≡ p.connection
    → IfOk result (λ response. Steps (event.Gone connection) response l l' p p')
    → IfOk result (λ response. Grows p (event.Gone p.connection) response p')
gone-grows connection l l' p p' (Ok response) is steps = subst (λ n. Grows p (event.Gone n) response p')
    is (grows (event.Gone connection) response l l' p p' steps)
gone-grows connection l l' p p' (Err e) is steps = tt
