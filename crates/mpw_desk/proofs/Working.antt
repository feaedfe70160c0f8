-- A worker's events leave its pass with the same receipts.
use Rattle.std.proofs.Common.{◌≡◌, ◌∙◌, ◌+◌, ◌++◌, ◌∷◌, [], Bool, refl, sym, subst, ⊎_elim, arith}
use Rattle.mpw_events.specs.declared.event.Event.{Event}
use Rattle.mpw_events.specs.declared.event.Event.TheVariants as event
use Rattle.mpw_events.specs.declared.event.Response.{Response}
use Rattle.mpw_events.specs.GoingOn.{IsEnded}
use Rattle.mpw_events.specs.History.{with_call}
use Rattle.mpw_desk.specs.Internal.Working.{AnyMayHandIn}
use Rattle.mpw_desk.specs.Passes.{Works}
use Rattle.mpw_desk.specs.Steps.{Records, Steps, with_own, call_of}
use Rattle.mpw_desk.specs.Values.{LockedDesk, PassView}

idle : (p : PassView) → Works p p
idle p = record { receipts = refl; connection = refl; count = omega arith }

-- an event that belongs to no connection
abbrev IsNobodys : Event → Type 0
IsNobodys event = (p : PassView) (response : Response) (kept : Bool)
    → with_own p.receipts (call_of event response kept) event ≡ p.receipts

nobodys-works : (event : Event) (response : Response) (l l' : LockedDesk) (p p' : PassView)
    → IsNobodys event → Steps event response l l' p p' → Works p p'
nobodys-works event response l l' p p' own steps =
    ⊎_elim (λ (left : (l'.kept.desk ≡ l.kept.desk) × (l'.calls ≡ l.calls) × (p' ≡ p)
    × IsEnded event response). subst (λ q. Works p q) (sym left.2) (idle p))
    (λ (one : (kept : Bool) × (l'.kept.desk ≡ with_call l.kept.desk event kept response)
    × (l'.calls ≡ l.calls ++ call_of event response kept ∷ []) × Records event response kept p p').
    record {
      receipts = one.3.receipts ∙ own p response one.0;
      connection = one.3.connection;
      count = omega (arith, one.3.count);
    }) steps.recorded

pub works : (event : Event) (response : Response) (l l' : LockedDesk) (p p' : PassView)
    → AnyMayHandIn event → Steps event response l l' p p' → Works p p'
works (event.Ask asker request) response l l' p p' any steps = absurd (any 0)
works (event.Gone gone) response l l' p p' any steps =
    let e : gone ≡ gone + 1 = any (gone + 1) in absurd (omega (arith, e))
works (event.Take worker) response l l' p p' any steps =
    nobodys-works (event.Take worker) response l l' p p' (λ q r k. refl) steps
works (event.Cut answer) response l l' p p' any steps =
    nobodys-works (event.Cut answer) response l l' p p' (λ q r k. refl) steps
works (event.Tile answer) response l l' p p' any steps =
    nobodys-works (event.Tile answer) response l l' p p' (λ q r k. refl) steps
works event.Restart response l l' p p' any steps = absurd (any 0)
