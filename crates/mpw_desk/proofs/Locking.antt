-- A step preserves what holds each time the lock is free.
use Rattle.std.proofs.Common.{◌≡◌, ◌≤◌, ◌+◌, ◌∙◌, ℕ, Bool, false, List, [], ◌∷◌, ◌++◌, length, length-append, ap, append_assoc, arith}
use Rattle.mpw_events.specs.declared.event.Call.{Call}
use Rattle.mpw_events.specs.declared.event.Event.{Event}
use Rattle.mpw_events.specs.declared.event.Response.{Response}
use Rattle.mpw_events.specs.GoingOn.{GoesOnTo}
use Rattle.mpw_events.specs.History.{Desk, KeptDesk, IsHandled, restarts, with_call}
use Rattle.mpw_desk.specs.Locked.{IsLocked}
use Rattle.mpw_desk.specs.Steps.{call_of}
use Rattle.mpw_desk.proofs.Legality.{legally-left, legally-on}

module _ (handled : (d left : KeptDesk) (event : Event) (response : Response)
    → IsHandled d event response left → GoesOnTo d left)
    (on : (a b c : KeptDesk) → GoesOnTo a b → GoesOnTo b c → GoesOnTo a c) where
  -- a step that adds a call, which is no restart
  pub locked-adds : (begun old new : KeptDesk) (calls : List Call)
      (base total all parts amount made : ℕ) (event : Event) (response : Response) (kept : Bool)
      → restarts event ≡ false → IsLocked begun old calls base total all parts amount made
      → IsHandled old event response new → new.desk ≡ with_call old.desk event kept response
      → IsLocked begun new (calls ++ call_of event response kept ∷ []) base (total + 1) all parts
      amount made
  locked-adds begun old new calls base total all parts amount made event response kept none locked
      is desk =
      let call = call_of event response kept in
      record {
        base = locked.base;
        goes = on begun old new locked.goes (handled old new event response is);
        calls = ap (λ (d : Desk). d.history) desk ∙ ap (λ l. l ++ call ∷ []) locked.calls
            ∙ append_assoc begun.desk.history calls (call ∷ []);
        legal = legally-on begun old new calls event response kept none locked.goes locked.calls
            locked.legal is desk;
        counted = omega (arith, locked.counted, length-append calls (call ∷ []));
        parts = locked.parts;
        idle = locked.idle;
        enough = locked.enough;
      }

  -- a step that adds nothing
  pub locked-stays : (begun old new : KeptDesk) (calls : List Call)
      (base total all parts amount made : ℕ) (event : Event) (response : Response)
      → IsLocked begun old calls base total all parts amount made
      → IsHandled old event response new → new.desk ≡ old.desk
      → IsLocked begun new calls base total all parts amount made
  locked-stays begun old new calls base total all parts amount made event response locked is desk =
      record {
        base = locked.base;
        goes = on begun old new locked.goes (handled old new event response is);
        calls = ap (λ (d : Desk). d.history) desk ∙ locked.calls;
        legal = legally-left begun old new calls event response locked.legal is desk;
        counted = locked.counted;
        parts = locked.parts;
        idle = locked.idle;
        enough = locked.enough;
      }

-- the count is the number of calls after those before the desk was shared
pub counted-within : (begun old new : KeptDesk) (calls : List Call)
    (base total all parts amount made count : ℕ) (event : Event) (response : Response)
    (kept : Bool)
    → IsLocked begun old calls base total all parts amount made
    → new.desk ≡ with_call old.desk event kept response → count ≡ length new.desk.history
    → total + 1 ≤ count
counted-within begun old new calls base total all parts amount made count event response kept locked
    desk is =
    omega (
      arith,
      locked.counted,
      is,
      ap (λ (d : Desk). length d.history) desk,
      ap (λ (l : List Call). length l) locked.calls,
      length-append begun.desk.history calls,
      length-append old.desk.history (call_of event response kept ∷ []),
    )
