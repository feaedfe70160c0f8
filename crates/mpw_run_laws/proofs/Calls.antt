-- What a call does to the run of a desk.
use Rattle.std.proofs.Common.{◌≡◌, ◌∙◌, ℕ, ◌+◌, Bool, true, false, ◌&&◌, not, List, [], ◌∷◌, Option, Some, None, Result, Ok, Err, refl, sym, ap, subst}
use Rattle.std.specs.Prelude.{if◌then◌else◌}
use Rattle.std.proofs.lemmas.Bool.{true≢false}
use Rattle.mpw_deck.specs.Decks.{Deck}
use Rattle.mpw_hier.specs.Items.{Item}
use Rattle.mpw_tiles.specs.Plan.{Tiling}
use Rattle.mpw_tiles.specs.Snapshots.{Snapshot, plan_for, shown}
use Rattle.mpw_job.specs.Jobs.{CutWindows, FoundMarkers}
use Rattle.mpw_run.specs.Laws.{finishes}
use Rattle.mpw_run.specs.Run.{Planned}
use Rattle.mpw_run.specs.Step as machine
use Rattle.mpw_requests.specs.declared.request.Request.{Request}
use Rattle.mpw_requests.specs.declared.request.Request.TheVariants as ask
use Rattle.mpw_requests.specs.declared.run.RunRequest.TheVariants as run
use Rattle.mpw_requests.specs.Needs.{need_of}
use Rattle.mpw_replies.specs.Rows.{◌>>=◌, changing, ended_by, needed}
use Rattle.mpw_replies.proofs.RowParts.{listing_changes_nothing}
use Rattle.mpw_trail.specs.declared.verdict.Code.{Code}
use Rattle.mpw_trail.specs.declared.verdict.Code.TheVariants as code
use Rattle.mpw_replies.specs.declared.reply.Line.TheVariants as line
use Rattle.mpw_replies.specs.declared.row.Ending.{Ending}
use Rattle.mpw_replies.specs.declared.row.Ending.TheVariants as ending
use Rattle.mpw_access.specs.Guard.{entered}
use Rattle.mpw_wafer.specs.Run.Checking as checking
use Rattle.mpw_events.specs.declared.event.Call.{Call}
use Rattle.mpw_events.specs.declared.event.Event.{Event}
use Rattle.mpw_events.specs.declared.event.Event.TheVariants as event
use Rattle.mpw_events.specs.declared.event.Response.{Response}
use Rattle.mpw_events.specs.declared.event.Response.TheVariants as response
use Rattle.mpw_events.specs.Step.{State, Outcome, after, guarded, no_change, outcome_by, over_run, of_run, outcome_of, row_outcome, event_outcome, not_kept_response, response_of, settlement, step}
use Rattle.mpw_core.proofs.OutcomeLemmas.{holds-row}
use Rattle.mpw_run_laws.specs.Calls.{asks_run, asks_cancel, is_restart, is_accepted, begins, leaves, GoesOn, is_kept, KeepsTile}
use Rattle.mpw_run_laws.specs.Finishing.{StandsIn}
use Rattle.mpw_run_laws.proofs.Moves.{Takes, Cuts, Answered, takes, cuts, answers}

-- ---- a call that doesn't change the run

-- it neither begins nor leaves a run, and no tile's answer is accepted
pub record IsQuiet (call : Call) : Type 0 where
  pub goes_on : GoesOn call
  pub keeps_none : (tile : ℕ) → KeepsTile tile call → ⊥

-- what a call does to the run
pub data Does (s : State) (call : Call) (s' : State) : Type 0 where
  begun : (p : Planned) → begins call ≡ true → StandsIn s p.snapshot
      → plan_for p.snapshot ≡ Some p.plan → s'.run ≡ machine.started s.run p → Does s call s'
  left : leaves call ≡ true → begins call ≡ false → s'.run ≡ machine.cancelled s.run
      → Does s call s'
  restarted : call.event ≡ event.Restart → IsQuiet call → s'.run ≡ machine.restarted s.run
      → Does s call s'
  stayed : IsQuiet call → is_restart call.event ≡ false → s'.run ≡ s.run → Does s call s'
  took : (o : machine.Outcome) → IsQuiet call → is_restart call.event ≡ false → Takes s.run o
      → s'.run ≡ o.run → Does s call s'
  cut : (answer : CutWindows) (o : machine.Outcome) → call.event ≡ event.Cut answer → IsQuiet call
      → is_restart call.event ≡ false → Cuts s.run answer o → s'.run ≡ o.run → Does s call s'
  answered : (answer : FoundMarkers) (o : machine.Outcome) → call.event ≡ event.Tile answer
      → call.response ≡ response.Run o.reply → GoesOn call → is_restart call.event ≡ false
      → Answered s.run answer o → s'.run ≡ o.run → Does s call s'

-- ---- how a change is settled

-- the step is the requested one, or the desk is closed
pub data Settled (s : State) (e : Event) (kept : Bool) (o : Outcome) : Type 0 where
  as_wanted : step s e kept ≡ o → Settled s e kept o
  closes : step s e kept ≡ no_change (not_kept_response e) (record s { closed = true })
      → o.changes ≡ true → Settled s e kept o

pub settled : (s : State) (e : Event) (kept : Bool) (o : Outcome) → event_outcome s e ≡ o
    → Settled s e kept o
unfolding step
settled s e kept o is = by o.changes kept refl refl
  where
    out : Bool → Outcome
    out b = if b then no_change (not_kept_response e) (record s { closed = true }) else o

    by : (c k : Bool) → o.changes ≡ c → kept ≡ k → Settled s e kept o
    by true true ec ek = Settled.as_wanted (ap (settlement s e kept) is
        ∙ ap (λ b. out (b && not kept)) ec ∙ ap (λ b. out (not b)) ek)
    by true false ec ek = Settled.closes (ap (settlement s e kept) is
        ∙ ap (λ b. out (b && not kept)) ec ∙ ap (λ b. out (not b)) ek) ec
    by false k ec ek = Settled.as_wanted (ap (settlement s e kept) is
        ∙ ap (λ b. out (b && not kept)) ec)

pub run_of : {a b : Outcome} → a ≡ b → a.state.run ≡ b.state.run
run_of e = ap (λ (o : Outcome). o.state.run) e

pub told_of : {a b : Outcome} → a ≡ b → a.response ≡ b.response
told_of e = ap (λ (o : Outcome). o.response) e

-- ---- the decision table of a run

ok_is : (x y : Planned) → ◌≡◌ {A = Result Planned Code} (Ok x) (Ok y) → x ≡ y
ok_is x y e = cc

record IsOver (s : Snapshot) (p : Planned) : Type 0 where
  is : p.snapshot ≡ s
  plan : plan_for p.snapshot ≡ Some p.plan

covered : (s : Snapshot) (p : Planned) (o : Option Tiling) → plan_for s ≡ o
    → checking.cover_test s o ≡ Ok p → IsOver s p
covered s p None f e = absurd cc
covered s p (Some plan) f e = subst (IsOver s) (ok_is _ p e) (record { is = refl; plan = f })

planned_over : (s : Snapshot) (p : Planned) (items : List Item)
    → checking.planning_over s items ≡ Ok p → IsOver s p
planned_over s p [] e = absurd cc
planned_over s p (item ∷ items) e = covered s p (plan_for s) refl e

-- what a run checks, with the present deck
record LooksAt (deck : Option Deck) (s : Deck → Snapshot) (p : Planned) : Type 0 where
  own : Deck
  has : deck ≡ Some own
  over : IsOver (s own) p

row_looks : (p : Planned) (rest : Result (Unit {0}) Code) (deck : Option Deck)
    (s : Deck → Snapshot)
    → (rest >>= λ y. needed code.NoDeck deck >>= λ d. checking.planning (s d)) ≡ Ok p
    → LooksAt deck s p
row_looks p (Err w) deck s e = absurd cc
row_looks p (Ok y) None s e = absurd cc
row_looks p (Ok y) (Some d) s e =
    record { own = d; has = refl; over = planned_over (s d) p (shown (s d)) e }

run_looks : (s : State) (p : Planned) → checking.run_row s.shelf s.wafer s.run ≡ Ok p
    → LooksAt s.wafer.deck (λ d. checking.snapshot_of d s.wafer.placings s.shelf) p
unfolding checking.run_row
run_looks s p e =
    row_looks p (checking.at_rest s.run.phase) s.wafer.deck
    (λ d. checking.snapshot_of d s.wafer.placings s.shelf) e

stands : (s : State) (p : Planned)
    → LooksAt s.wafer.deck (λ d. checking.snapshot_of d s.wafer.placings s.shelf) p
    → StandsIn s p.snapshot
stands s p l = record {
  deck = l.has ∙ ap (λ (t : Snapshot). Some t.deck) (sym l.over.is);
  roots = ap (λ (t : Snapshot). t.roots) (sym l.over.is);
  shelf = ap (λ (t : Snapshot). t.shelf) (sym l.over.is);
}

-- ---- requests

not_accepted : (why : Ending) → is_accepted (response.Told (ended_by why)) ≡ false
not_accepted (ending.Denied d) = refl
not_accepted (ending.Refused c) = refl

-- the run is the earlier one
abbrev RunStays : State → State → Type 0
RunStays s t = t.run ≡ s.run

-- what a table that begins a run, or leaves it, makes of what its tests give
abbrev begun_by : State → Result Planned Code → Outcome
begun_by s row =
    outcome_by ending.Refused (over_run s) s
    (changing checking.RunChange.begun (λ planned. line.Run (s.run.number + 1) ∷ []) row)

abbrev left_by : State → Result (Unit {0}) Code → Outcome
left_by s row =
    outcome_by ending.Refused (over_run s) s
    (changing (λ x. checking.RunChange.left_off) (λ x. []) row)

wanted : (s : State) (connection : ℕ) (request : Request)
    → event_outcome s (event.Ask connection request) ≡ outcome_of s connection request
unfolding event_outcome
wanted s connection request = refl

no_tile : (connection : ℕ) (request : Request) (answer : FoundMarkers)
    → event.Ask connection request ≡ event.Tile answer → ⊥
no_tile connection request answer e = cc

-- a call that is neither a `run` nor a `cancel`, and hands in no markers
quiet : (call : Call) → asks_run call.event ≡ false → asks_cancel call.event ≡ false
    → ((answer : FoundMarkers) → call.event ≡ event.Tile answer → ⊥) → IsQuiet call
quiet call r c none = record {
  goes_on = record {
    same = ap (λ b. b && is_accepted call.response) r;
    stays = ap (λ b. b && is_accepted call.response) c;
  };
  keeps_none = λ tile k. none k.answer k.is;
}

-- a request that isn't accepted
refused : (call : Call) → is_accepted call.response ≡ false
    → ((answer : FoundMarkers) → call.event ≡ event.Tile answer → ⊥) → IsQuiet call
refused call e none = record {
  goes_on = record {
    same = ap (λ b. asks_run call.event && b) e ∙ and_false (asks_run call.event);
    stays = ap (λ b. asks_cancel call.event && b) e ∙ and_false (asks_cancel call.event);
  };
  keeps_none = λ tile k. none k.answer k.is;
}
  where
    and_false : (b : Bool) → (b && false) ≡ false
    and_false true = refl
    and_false false = refl

abbrev call_of : Event → Response → Bool → Call
call_of e r kept = record { event = e; response = r; kept = kept }

abbrev DoesAs : State → Event → Response → Bool → Type 0
DoesAs s e r kept = Does s (call_of e r kept) (after s e kept)

-- a request whose table leaves the run unchanged, whatever its reply
left_alone : (s : State) (connection : ℕ) (request : Request) (r : Response) (kept : Bool)
    → asks_run (event.Ask connection request) ≡ false
    → asks_cancel (event.Ask connection request) ≡ false
    → RunStays s (row_outcome s connection request).state
    → DoesAs s (event.Ask connection request) r kept
left_alone s connection request r kept runs cancels same =
    Does.stayed (quiet _ runs cancels (no_tile connection request)) refl
    (by (entered s.policy connection (need_of request))
    (settled s (event.Ask connection request) kept _ (wanted s connection request)))
  where
    by : (met : Result (Unit {0}) Ending)
        → Settled s (event.Ask connection request) kept
        (guarded s met (row_outcome s connection request))
        → (step s (event.Ask connection request) kept).state.run ≡ s.run
    by (Ok passed) (Settled.as_wanted e) = run_of e ∙ same
    by (Err why) (Settled.as_wanted e) = run_of e
    by met (Settled.closes e c) = run_of e

begun_does : (s : State) (connection : ℕ) (r : Response) (kept : Bool)
    → r ≡ response_of s (event.Ask connection (ask.Run run.Run)) kept
    → DoesAs s (event.Ask connection (ask.Run run.Run)) r kept
begun_does s connection r kept told =
    by (entered s.policy connection (need_of (ask.Run run.Run)))
    (checking.run_row s.shelf s.wafer s.run) refl
    (settled s e kept _ (wanted s connection (ask.Run run.Run)))
  where
    e : Event
    e = event.Ask connection (ask.Run run.Run)

    none : (answer : FoundMarkers) → e ≡ event.Tile answer → ⊥
    none = no_tile connection (ask.Run run.Run)

    by : (met : Result (Unit {0}) Ending) (row : Result Planned Code)
        → checking.run_row s.shelf s.wafer s.run ≡ row
        → Settled s e kept (guarded s met (begun_by s row)) → DoesAs s e r kept
    by (Err why) row is (Settled.as_wanted q) =
        Does.stayed (refused _ (ap is_accepted (told ∙ told_of q) ∙ not_accepted why) none) refl
        (run_of q)
    by (Ok passed) (Ok p) is (Settled.as_wanted q) =
        let l = run_looks s p is in
        Does.begun p (ap is_accepted (told ∙ told_of q)) (stands s p l) l.over.plan (run_of q)
    by (Ok passed) (Err why) is (Settled.as_wanted q) =
        Does.stayed (refused _ (ap is_accepted (told ∙ told_of q)) none) refl (run_of q)
    by met row is (Settled.closes q c) =
        Does.stayed (refused _ (ap is_accepted (told ∙ told_of q)) none) refl (run_of q)

cancelled_does : (s : State) (connection : ℕ) (r : Response) (kept : Bool)
    → r ≡ response_of s (event.Ask connection (ask.Run run.Cancel)) kept
    → DoesAs s (event.Ask connection (ask.Run run.Cancel)) r kept
cancelled_does s connection r kept told =
    by (entered s.policy connection (need_of (ask.Run run.Cancel))) (checking.going_on s.run.phase)
    (settled s e kept _ (wanted s connection (ask.Run run.Cancel)))
  where
    e : Event
    e = event.Ask connection (ask.Run run.Cancel)

    none : (answer : FoundMarkers) → e ≡ event.Tile answer → ⊥
    none = no_tile connection (ask.Run run.Cancel)

    by : (met : Result (Unit {0}) Ending) (row : Result (Unit {0}) Code)
        → Settled s e kept (guarded s met (left_by s row)) → DoesAs s e r kept
    by (Err why) row (Settled.as_wanted q) =
        Does.stayed (refused _ (ap is_accepted (told ∙ told_of q) ∙ not_accepted why) none) refl
        (run_of q)
    by (Ok passed) (Ok x) (Settled.as_wanted q) =
        Does.left (ap is_accepted (told ∙ told_of q)) refl (run_of q)
    by (Ok passed) (Err why) (Settled.as_wanted q) =
        Does.stayed (refused _ (ap is_accepted (told ∙ told_of q)) none) refl (run_of q)
    by met row (Settled.closes q c) =
        Does.stayed (refused _ (ap is_accepted (told ∙ told_of q)) none) refl (run_of q)

asked_does : (s : State) (connection : ℕ) (request : Request) (r : Response) (kept : Bool)
    → r ≡ response_of s (event.Ask connection request) kept
    → DoesAs s (event.Ask connection request) r kept
asked_does s connection (ask.Policy request) r kept told =
    left_alone s connection (ask.Policy request) r kept refl refl
    (holds-row (RunStays s) _ _ s _ refl (λ policy lines is. refl))
asked_does s connection ask.Whoami r kept told =
    left_alone s connection ask.Whoami r kept refl refl refl
asked_does s connection (ask.Layout request) r kept told =
    left_alone s connection (ask.Layout request) r kept refl refl
    (holds-row (RunStays s) _ _ s _ refl (λ shelf lines is. refl))
asked_does s connection (ask.Wafer request) r kept told =
    left_alone s connection (ask.Wafer request) r kept refl refl
    (holds-row (RunStays s) ending.Refused _ s _ refl (λ wafer lines is. refl))
asked_does s connection (ask.Run run.Run) r kept told = begun_does s connection r kept told
asked_does s connection (ask.Run run.Cancel) r kept told = cancelled_does s connection r kept told
asked_does s connection (ask.Run run.Status) r kept told =
    left_alone s connection (ask.Run run.Status) r kept refl refl refl
asked_does s connection (ask.Run run.Markers) r kept told =
    left_alone s connection (ask.Run run.Markers) r kept refl refl
    (holds-row (RunStays s) ending.Refused (over_run s) s _ refl (λ change lines is.
    absurd (listing_changes_nothing _ (needed code.NotFinished (machine.findings s.run.phase))
    change lines is)))
asked_does s connection (ask.SignOff request) r kept told =
    left_alone s connection (ask.SignOff request) r kept refl refl
    (holds-row (RunStays s) _ _ s _ refl (λ change lines is. refl))
asked_does s connection ask.Trail r kept told =
    left_alone s connection ask.Trail r kept refl refl refl

-- ---- other events

gone_does : (s : State) (connection : ℕ) (r : Response) (kept : Bool)
    → DoesAs s (event.Gone connection) r kept
unfolding event_outcome
gone_does s connection r kept =
    Does.stayed (quiet _ refl refl (λ answer e. cc)) refl
    (by (settled s (event.Gone connection) kept _ refl))
  where
    by : Settled s (event.Gone connection) kept (event_outcome s (event.Gone connection))
        → (step s (event.Gone connection) kept).state.run ≡ s.run
    by (Settled.as_wanted e) = run_of e
    by (Settled.closes e c) = run_of e

-- an event of the run that doesn't finish it has the requested step
pub unfinished : (s : State) (e : Event) (kept : Bool) (o : machine.Outcome)
    → event_outcome s e ≡ of_run s o → finishes o.reply ≡ false → step s e kept ≡ of_run s o
unfinished s e kept o is goes = by (settled s e kept (of_run s o) is)
  where
    by : Settled s e kept (of_run s o) → step s e kept ≡ of_run s o
    by (Settled.as_wanted q) = q
    by (Settled.closes q c) = absurd (true≢false (sym c ∙ goes))

pub taken_goes : (r : machine.Run) (o : machine.Outcome) → Takes r o → finishes o.reply ≡ false
taken_goes r o (Takes.stays e f) = f
taken_goes r o (Takes.raises c k x p a e f) = f

pub cut_goes : (r : machine.Run) (answer : CutWindows) (o : machine.Outcome) → Cuts r answer o
    → finishes o.reply ≡ false
cut_goes r answer o (Cuts.stays e f) = f
cut_goes r answer o (Cuts.begins planned p a e f) = f

taken_does : (s : State) (worker : ℕ) (r : Response) (kept : Bool)
    → DoesAs s (event.Take worker) r kept
unfolding event_outcome
taken_does s worker r kept =
    Does.took (machine.taken s.run) (quiet _ refl refl (λ answer e. cc)) refl (takes s.run)
    (run_of (unfinished s (event.Take worker) kept (machine.taken s.run) refl
    (taken_goes s.run _ (takes s.run))))

cut_does : (s : State) (answer : CutWindows) (r : Response) (kept : Bool)
    → DoesAs s (event.Cut answer) r kept
unfolding event_outcome
cut_does s answer r kept =
    Does.cut answer (machine.cut_answered s.run answer) refl
    (quiet _ refl refl (λ other e. cc)) refl (cuts s.run answer)
    (run_of (unfinished s (event.Cut answer) kept (machine.cut_answered s.run answer) refl
    (cut_goes s.run answer _ (cuts s.run answer))))

tile_does : (s : State) (answer : FoundMarkers) (r : Response) (kept : Bool)
    → r ≡ response_of s (event.Tile answer) kept → DoesAs s (event.Tile answer) r kept
unfolding event_outcome
tile_does s answer r kept told =
    by (settled s (event.Tile answer) kept (of_run s (machine.tile_answered s.run answer)) refl)
  where
    by : Settled s (event.Tile answer) kept (of_run s (machine.tile_answered s.run answer))
        → DoesAs s (event.Tile answer) r kept
    by (Settled.as_wanted q) =
        Does.answered answer (machine.tile_answered s.run answer) refl (told ∙ told_of q)
        (record { same = refl; stays = refl }) refl (answers s.run answer) (run_of q)
    by (Settled.closes q c) =
        Does.stayed (record {
          goes_on = record { same = refl; stays = refl };
          keeps_none = λ tile k. true≢false (sym k.kept ∙ ap is_kept (told ∙ told_of q));
        }) refl (run_of q)

restart_does : (s : State) (r : Response) (kept : Bool) → DoesAs s event.Restart r kept
unfolding event_outcome
restart_does s r kept =
    Does.restarted refl (quiet _ refl refl (λ answer e. cc))
    (by (settled s event.Restart kept _ refl))
  where
    by : Settled s event.Restart kept (event_outcome s event.Restart)
        → (step s event.Restart kept).state.run ≡ machine.restarted s.run
    by (Settled.as_wanted e) = run_of e
    by (Settled.closes e c) = absurd (true≢false (sym c))

does_as : (s : State) (e : Event) (r : Response) (kept : Bool) → r ≡ response_of s e kept
    → DoesAs s e r kept
does_as s (event.Ask connection request) r kept told = asked_does s connection request r kept told
does_as s (event.Gone connection) r kept told = gone_does s connection r kept
does_as s (event.Take worker) r kept told = taken_does s worker r kept
does_as s (event.Cut answer) r kept told = cut_does s answer r kept
does_as s (event.Tile answer) r kept told = tile_does s answer r kept told
does_as s event.Restart r kept told = restart_does s r kept

pub does : (s : State) (call : Call) → call.response ≡ response_of s call.event call.kept
    → Does s call (after s call.event call.kept)
does s call told = does_as s call.event call.response call.kept told
