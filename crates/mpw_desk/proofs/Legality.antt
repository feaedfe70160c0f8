-- A call that is added is legal, the history had room for it, and the store writer failed exactly if it wasn't
-- stored.
use Rattle.std.proofs.Common.{◌≡◌, ◌≤◌, ◌<◌, ◌+◌, ◌∙◌, ◌==◌, ℕ, Bool, true, false, cond, List, [], ◌∷◌, ◌++◌, length, length-append, Option, None, Some, nat_lt, is_some, refl, sym, ap, subst, arith}
use Rattle.std.specs.Prelude.{⊤, ◌||◌, ◌&&◌, not, if◌then◌else◌}
use Rattle.std.proofs.lemmas.Bool.{ltb-true}
use Rattle.std.proofs.lemmas.List.{append_cancel_left}
use Rattle.std.proofs.lemmas.List.Elements.{All-nil, All-push}
use Rattle.mpw_job.specs.Jobs.{CutWindows}
use Rattle.mpw_run.specs.declared.phase.Phase.{Phase}
use Rattle.mpw_run.specs.declared.phase.Phase.TheVariants.{Idle, Cutting, Checking, Finished}
use Rattle.mpw_run.specs.declared.phase.RunReply.TheVariants as run_reply
use Rattle.mpw_run.specs.Run.{Planned, Checks}
use Rattle.mpw_run.specs.Same.{same_snapshot}
use Rattle.mpw_run.specs.Step as run
use Rattle.mpw_run.specs.Laws.{finishes}
use Rattle.mpw_events.specs.declared.event.Call.{Call}
use Rattle.mpw_events.specs.declared.event.Event.{Event}
use Rattle.mpw_events.specs.declared.event.Event.TheVariants as event
use Rattle.mpw_events.specs.declared.event.Response.{Response}
use Rattle.mpw_events.specs.declared.event.Response.TheVariants as response
use Rattle.mpw_events.specs.GoingOn.{GoesOnTo}
use Rattle.mpw_events.specs.History.{Desk, Handled, IsCall, IsHandled, IsLegal, KeptDesk, answering, closed_response, handling, limit_response, max_events, nothing_added, restarts, state_after, state_of, with_call}
use Rattle.mpw_events.specs.Keeping.{change_to_keep, failed_after}
use Rattle.mpw_events.specs.Step.{Outcome, State, after, event_outcome, new_state, no_change, not_kept_response, response_of, step}
use Rattle.mpw_desk.specs.Legal.{GoesLegally, failures_after}
use Rattle.mpw_desk.specs.Steps.{IsToldAs, MayHandIn, call_of}
use Rattle.mpw_desk.proofs.Coming.{longer, state_after-on, step-normal}

-- ---- an event's changes must be stored, whatever the event

handing-goes-on : (r : run.Run) (c : Checks) (o : Option run.Offer)
    → finishes (run.handed r c o).reply ≡ false
handing-goes-on r c None = refl
handing-goes-on r c (Some offer) = refl

taking-goes-on : (r : run.Run) → finishes (run.taken r).reply ≡ false
taking-goes-on r = go r.phase
  where
    go : (phase : Phase) → finishes (run.taken_in r phase).reply ≡ false
    go Idle = refl
    go (Cutting planned) = refl
    go (Checking c) = handing-goes-on r c (run.next_from 0 c.tiles)
    go (Finished f) = refl

cutting-goes-on : (r : run.Run) (answer : CutWindows)
    → finishes (run.cut_answered r answer).reply ≡ false
cutting-goes-on r answer = now (r.number == answer.job.run)
  where
    same : (planned : Planned) (b : Bool)
        → finishes (cond b (run.begun r planned answer) (run.left_as run_reply.Stranger r)).reply
        ≡ false
    same planned true = refl
    same planned false = refl

    go : (phase : Phase) → finishes (run.cut_in r answer phase).reply ≡ false
    go Idle = refl
    go (Cutting planned) = same planned (same_snapshot answer.job.snapshot planned.snapshot)
    go (Checking c) = refl
    go (Finished f) = refl

    now : (b : Bool) → finishes (cond b (run.cut_in r answer r.phase)
        (run.left_as run_reply.OldRun r)).reply ≡ false
    now true = go r.phase
    now false = refl

asked-change : (s : State) (e : Event)
    → is_some (change_to_keep e (event_outcome s e).changes) ≡ (event_outcome s e).changes
unfolding event_outcome
asked-change s (event.Ask connection request) =
    go (event_outcome s (event.Ask connection request)).changes
  where
    go : (b : Bool) → is_some (change_to_keep (event.Ask connection request) b) ≡ b
    go true = refl
    go false = refl
asked-change s (event.Gone connection) = go (event_outcome s (event.Gone connection)).changes
  where
    go : (b : Bool) → is_some (change_to_keep (event.Gone connection) b) ≡ b
    go true = refl
    go false = refl
asked-change s (event.Take worker) = rw (taking-goes-on s.run) refl
asked-change s (event.Cut answer) = rw (cutting-goes-on s.run answer) refl
asked-change s (event.Tile answer) = go (event_outcome s (event.Tile answer)).changes
  where
    go : (b : Bool) → is_some (change_to_keep (event.Tile answer) b) ≡ b
    go true = refl
    go false = refl
asked-change s event.Restart = refl

-- ---- the call that was added

abbrev IsFalse : Bool → Type 0
IsFalse true = ⊥
IsFalse false = ⊤

unkept : (changes kept : Bool) → (changes && not kept) ≡ not (kept || not changes)
unkept true true = refl
unkept true false = refl
unkept false true = refl
unkept false false = refl

always : (kept changes : Bool) → changes ≡ false → (kept || not changes) ≡ true
always true changes none = refl
always false true none = sym none
always false false none = refl

abbrev first-kept : Bool → List Call → Bool
first-kept kept [] = kept
first-kept kept (c ∷ cs) = c.kept

same-kept : (d : Desk) (e : Event) (r r' : Response) (was kept : Bool)
    → with_call d e was r ≡ with_call d e kept r' → was ≡ kept
same-kept d e r r' was kept is =
    ap (first-kept was) (append_cancel_left d.history (call_of e r was ∷ [])
    (call_of e r' kept ∷ []) (ap (λ (x : Desk). x.history) is))

room-left : (restart room : Bool) → (restart || room) ≡ true → restart ≡ false → room ≡ true
room-left true room is none = absurd (subst IsFalse (sym none) tt)
room-left false room is none = is

-- it is legal, the history had room for it, unless it is a restart, and the store writer failed exactly if it
-- wasn't stored
pub record IsAdded (d d' : KeptDesk) (call : Call) : Type 0 where
  pub is : IsCall (state_of d.desk) call
  pub room : restarts call.event ≡ false → length d.desk.history < max_events
  pub failures : d'.failures ≡ failed_after d.failures (not call.kept)

pub is_added : (d d' : KeptDesk) (e : Event) (r : Response) (was : Bool) → IsHandled d e r d'
    → d'.desk ≡ with_call d.desk e was r → IsAdded d d' (call_of e r was)
unfolding handling answering
is_added d d' e r was is added =
    go (state_of d.desk).closed (restarts e || nat_lt (length d.desk.history) max_events) refl refl
    is.1.told is.1.desk is.1.failures
  where
    s : State
    s = state_of d.desk

    out : Bool → Bool → Handled
    out c o = if c then nothing_added (closed_response e) d.desk else if o
        then answering d.desk e is.0
        else nothing_added (limit_response e) d.desk

    go : (c o : Bool) → s.closed ≡ c → (restarts e || nat_lt (length d.desk.history) max_events) ≡ o
        → r ≡ (out c o).response → d'.desk ≡ (out c o).desk
        → d'.failures ≡ failed_after d.failures (out c o).failed
        → IsAdded d d' (call_of e r was)
    go true o closed room told desk failures = absurd (longer d.desk e was r (sym added ∙ desk))
    go false false closed room told desk failures =
        absurd (longer d.desk e was r (sym added ∙ desk))
    go false true closed room told desk failures =
        let changes = (event_outcome s e).changes in
        let kept = is.0 || not changes in
        let same : was ≡ kept = same-kept d.desk e r (step s e is.0).response was kept
        (sym added ∙ desk) in
        record {
          is = record {
            is_open = closed;
            told = told ∙ ap (λ (o : Outcome). o.response) (sym (step-normal s e is.0))
                ∙ ap (λ k. response_of s e k) (sym same);
            nothing = λ none. same ∙ always is.0 changes none;
          };
          room = λ none. ltb-true (length d.desk.history) max_events
              (room-left (restarts e) (nat_lt (length d.desk.history) max_events) room none);
          failures = failures ∙ ap (λ (b : Bool). failed_after d.failures b)
              (ap (λ (b : Bool). b && not is.0) (asked-change s e) ∙ unkept changes is.0
              ∙ ap not (sym same));
        }

-- if nothing is added, the store writer did not fail
pub left-failures : (d d' : KeptDesk) (e : Event) (r : Response) → IsHandled d e r d'
    → d'.desk ≡ d.desk → d'.failures ≡ d.failures
unfolding handling answering
left-failures d d' e r is left =
    go (state_of d.desk).closed (restarts e || nat_lt (length d.desk.history) max_events) is.1.desk
    is.1.failures
  where
    out : Bool → Bool → Handled
    out c o = if c then nothing_added (closed_response e) d.desk else if o
        then answering d.desk e is.0
        else nothing_added (limit_response e) d.desk

    go : (c o : Bool) → d'.desk ≡ (out c o).desk
        → d'.failures ≡ failed_after d.failures (out c o).failed → d'.failures ≡ d.failures
    go true o desk failures = failures
    go false false desk failures = failures
    go false true desk failures =
        absurd (longer d.desk e (is.0 || not (event_outcome (state_of d.desk) e).changes)
        (step (state_of d.desk) e is.0).response (sym desk ∙ left))

-- ---- its response

not-kept : (b was : Bool) (o : Outcome) (s : State) (r : Response) → (b ≡ false → was ≡ true)
    → was ≡ false → (if b && not was then no_change r s else o).response ≡ r
not-kept true true o s r nothing e = absurd (subst IsFalse (sym e) tt)
not-kept true false o s r nothing e = refl
not-kept false true o s r nothing e = absurd (subst IsFalse (sym e) tt)
not-kept false false o s r nothing e = absurd (subst IsFalse (nothing refl) tt)

gone-told : (b was : Bool) (o : Outcome) (s : State) → o.response ≡ response.Gone
    → (b ≡ false → was ≡ true)
    → (if b && not was then no_change response.Ended s else o).response
    ≡ (if was then response.Gone else response.Ended)
gone-told true true o s gone nothing = gone
gone-told true false o s gone nothing = refl
gone-told false true o s gone nothing = gone
gone-told false false o s gone nothing = absurd (subst IsFalse (nothing refl) tt)

told-as : (s : State) (e : Event) (r : Response) (was : Bool) → r ≡ response_of s e was
    → ((event_outcome s e).changes ≡ false → was ≡ true) → IsToldAs e r was
unfolding step event_outcome
told-as s (event.Ask connection request) r was told nothing = λ e.
    told ∙ not-kept (event_outcome s (event.Ask connection request)).changes was
    (event_outcome s (event.Ask connection request)) (record s { closed = true })
    (not_kept_response (event.Ask connection request)) nothing e
told-as s (event.Gone connection) r was told nothing =
    told ∙ gone-told (event_outcome s (event.Gone connection)).changes was
    (event_outcome s (event.Gone connection)) (record s { closed = true }) refl nothing
told-as s (event.Take worker) r was told nothing = tt
told-as s (event.Cut answer) r was told nothing = tt
told-as s (event.Tile answer) r was told nothing = tt
told-as s event.Restart r was told nothing = tt

pub added-told : (d d' : KeptDesk) (e : Event) (r : Response) (was : Bool) → IsHandled d e r d'
    → d'.desk ≡ with_call d.desk e was r → IsToldAs e r was
added-told d d' e r was is added =
    let one = (is_added d d' e r was is added).is in
    told-as (state_of d.desk) e r was one.told one.nothing

-- ---- all calls since the desk was shared

pub none_since : (begun kept : KeptDesk) (calls : List Call) → begun ≡ kept → calls ≡ []
    → GoesLegally begun kept calls
none_since begun kept calls same none =
    subst (λ (k : KeptDesk). GoesLegally begun k calls) same
    (subst (λ (c : List Call). GoesLegally begun begun c) (sym none)
    (record {
      legal = tt;
      no_restart = All-nil (λ (call : Call). restarts call.event ≡ false);
      within = λ some. absurd (some refl);
      failures = refl;
    }))

reached : (begun kept : KeptDesk) (calls : List Call) → GoesOnTo begun kept
    → kept.desk.history ≡ begun.desk.history ++ calls
    → state_of kept.desk ≡ state_after (state_of begun.desk) calls
reached begun kept calls goes history =
    let first = new_state begun.desk.officer begun.desk.digest in
    ap state_of goes.added
    ∙ ap (λ (h : List Call). state_after first h)
    (sym (ap (λ (d : Desk). d.history) goes.added) ∙ history)
    ∙ state_after-on first begun.desk.history calls

legal-push : (s : State) (calls : List Call) (call : Call) → IsLegal s calls
    → IsCall (state_after s calls) call → IsLegal s (calls ++ call ∷ [])
legal-push s [] call legal is = (is, tt)
legal-push s (c ∷ cs) call legal is =
    (legal.0, legal-push (after s c.event c.kept) cs call legal.1 is)

failures-push : (n : ℕ) (calls : List Call) (call : Call)
    → failures_after n (calls ++ call ∷ []) ≡ failed_after (failures_after n calls) (not call.kept)
failures-push n [] call = refl
failures-push n (c ∷ cs) call = failures-push (failed_after n (not c.kept)) cs call

-- if a history has room, it has no more calls than its greatest number with the next one
one-more-within : (before calls now : List Call) (call : Call) (most : ℕ) → now ≡ before ++ calls
    → length now < most → length before + length (calls ++ call ∷ []) ≤ most
one-more-within before calls now call most is room =
    omega (
      arith,
      room,
      ap (λ (l : List Call). length l) is,
      length-append before calls,
      length-append calls (call ∷ []),
    )

-- no pass hands a restart in
pub no-restart : (connection : ℕ) (e : Event) → MayHandIn connection e → restarts e ≡ false
no-restart connection (event.Ask asker request) may = refl
no-restart connection (event.Gone gone) may = refl
no-restart connection (event.Take worker) may = refl
no-restart connection (event.Cut answer) may = refl
no-restart connection (event.Tile answer) may = refl
no-restart connection event.Restart may = absurd may

pub legally-on : (begun old new : KeptDesk) (calls : List Call) (e : Event) (r : Response)
    (was : Bool) → restarts e ≡ false → GoesOnTo begun old
    → old.desk.history ≡ begun.desk.history ++ calls
    → GoesLegally begun old calls → IsHandled old e r new → new.desk ≡ with_call old.desk e was r
    → GoesLegally begun new (calls ++ call_of e r was ∷ [])
legally-on begun old new calls e r was none goes history before is added =
    let call = call_of e r was in
    let one = is_added old new e r was is added in
    record {
      legal = legal-push (state_of begun.desk) calls call before.legal
          (subst (λ (s : State). IsCall s call) (reached begun old calls goes history) one.is);
      no_restart = All-push (λ (c : Call). restarts c.event ≡ false) calls call before.no_restart
          none;
      within = λ some. one-more-within begun.desk.history calls old.desk.history call max_events
          history (one.room none);
      failures = one.failures ∙ ap (λ n. failed_after n (not was)) before.failures
          ∙ sym (failures-push begun.failures calls call);
    }

pub legally-left : (begun old new : KeptDesk) (calls : List Call) (e : Event) (r : Response)
    → GoesLegally begun old calls → IsHandled old e r new → new.desk ≡ old.desk
    → GoesLegally begun new calls
legally-left begun old new calls e r before is left =
    record {
      legal = before.legal;
      no_restart = before.no_restart;
      within = before.within;
      failures = left-failures old new e r is left ∙ before.failures;
    }
