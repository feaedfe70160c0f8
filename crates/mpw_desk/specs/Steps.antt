-- What one critical section does: to the desk, and to the pass that handed an event in.
use Rattle.std.specs.Prelude.{◌≡◌, ◌≢◌, ◌⊎◌, ◌+◌, ⊤, ℕ, Bool, false, List, [], ◌∷◌, ◌++◌, if◌then◌else◌}
use Rattle.mpw_events.specs.declared.event.Call.{Call}
use Rattle.mpw_events.specs.declared.event.Event.{Event}
use Rattle.mpw_events.specs.declared.event.Event.TheVariants as event
use Rattle.mpw_events.specs.declared.event.Response.{Response}
use Rattle.mpw_events.specs.declared.event.Response.TheVariants as response
use Rattle.mpw_events.specs.GoingOn.{IsEnded}
use Rattle.mpw_events.specs.History.{IsHandled, closed_response, limit_response, with_call}
use Rattle.mpw_events.specs.Step.{not_kept_response}
use Rattle.mpw_replies.specs.declared.reply.Reply.{Reply}
use Rattle.mpw_desk.specs.Values.{LockedDesk, PassView}

-- what a pass may hand in: a request and an end of its own connection, and events that belong to no
-- connection; never a restart
abbrev pub MayHandIn : ℕ → Event → Type 0
MayHandIn connection (event.Ask asker request) = asker ≡ connection
MayHandIn connection (event.Gone gone) = gone ≡ connection
MayHandIn connection (event.Take worker) = ⊤
MayHandIn connection (event.Cut answer) = ⊤
MayHandIn connection (event.Tile answer) = ⊤
MayHandIn connection event.Restart = ⊥

-- the same without requests, after which a worker may have to be woken
abbrev pub MayHandInBesides : ℕ → Event → Type 0
MayHandInBesides connection (event.Ask asker request) = ⊥
MayHandInBesides connection (event.Gone gone) = gone ≡ connection
MayHandInBesides connection (event.Take worker) = ⊤
MayHandInBesides connection (event.Cut answer) = ⊤
MayHandInBesides connection (event.Tile answer) = ⊤
MayHandInBesides connection event.Restart = ⊥

abbrev pub call_of : Event → Response → Bool → Call
call_of event response kept = record { event = event; response = response; kept = kept }

-- receipts with one more call, if it belongs to a connection
abbrev pub with_own : List Call → Call → Event → List Call
with_own receipts call (event.Ask asker request) = receipts ++ call ∷ []
with_own receipts call (event.Gone gone) = receipts ++ call ∷ []
with_own receipts call (event.Take worker) = receipts
with_own receipts call (event.Cut answer) = receipts
with_own receipts call (event.Tile answer) = receipts
with_own receipts call event.Restart = receipts

-- an answer that the history has: a request gets a reply, and never that the desk is closed or its history
-- full. Any other event may get `Ended` there, if its change could not be stored
abbrev pub IsAnswer : Event → Response → Type 0
IsAnswer (event.Ask connection request) answered =
    (answered ≢ closed_response (event.Ask connection request))
    × (answered ≢ limit_response (event.Ask connection request))
    × ((reply : Reply) × (answered ≡ response.Told reply))
IsAnswer (event.Gone connection) answered = ⊤
IsAnswer (event.Take worker) answered = ⊤
IsAnswer (event.Cut answer) answered = ⊤
IsAnswer (event.Tile answer) answered = ⊤
IsAnswer event.Restart answered = ⊤

-- the response to a connection's call, by whether its change was stored: a request that wasn't stored gets
-- that reply, and an end gets `Gone` exactly if it was stored
abbrev pub IsToldAs : Event → Response → Bool → Type 0
IsToldAs (event.Ask connection request) answered kept =
    kept ≡ false → answered ≡ not_kept_response (event.Ask connection request)
IsToldAs (event.Gone connection) answered kept =
    answered ≡ (if kept then response.Gone else response.Ended)
IsToldAs (event.Take worker) answered kept = ⊤
IsToldAs (event.Cut answer) answered kept = ⊤
IsToldAs (event.Tile answer) answered kept = ⊤
IsToldAs event.Restart answered kept = ⊤

-- the call is recorded: the pass counts one more, and its receipts have it if it belongs to a connection
pub record Records (event : Event) (response : Response) (kept : Bool) (p p' : PassView) : Type 0 where
  pub answer : IsAnswer event response
  pub told : IsToldAs event response kept
  pub receipts : p'.receipts ≡ with_own p.receipts (call_of event response kept) event
  pub count : p'.count ≡ p.count + 1
  pub connection : p'.connection ≡ p.connection

-- the step of the desk, and what was recorded of it: nothing, if the desk is closed or its history full; else
-- one call, in the history and in the pass
pub record Steps (event : Event) (response : Response) (l l' : LockedDesk) (p p' : PassView) :
    Type 0 where
  pub handled : IsHandled l.kept event response l'.kept
  pub next : l'.next ≡ l.next
  pub made : l'.made ≡ l.made
  pub stopped : l'.is_stopped ≡ l.is_stopped
  pub recorded : ((l'.kept.desk ≡ l.kept.desk) × (l'.calls ≡ l.calls) × (p' ≡ p) × IsEnded event response)
      ⊎ ((kept : Bool) × (l'.kept.desk ≡ with_call l.kept.desk event kept response)
      × (l'.calls ≡ l.calls ++ call_of event response kept ∷ []) × Records event response kept p p')
