-- In every state the run that goes on has the plan of its snapshot.
use Rattle.std.proofs.Common.{◌≡◌, ℕ, Bool, true, false, cond, List, [], ◌∷◌, Option, None, Some, Result, Ok, Err, refl, subst}
use Rattle.std.specs.Prelude.{⊤, ◌==◌, ◌&&◌, not, nat_lt, slice_get, slice_set, if◌then◌else◌}
use Rattle.mpw_deck.specs.Decks.{Deck}
use Rattle.mpw_hier.specs.Items.{Item}
use Rattle.mpw_tiles.specs.Plan.{Tiling, tiles}
use Rattle.mpw_tiles.specs.Snapshots.{Snapshot, plan_for, shown}
use Rattle.mpw_markers.specs.declared.marker.Marker.{Marker}
use Rattle.mpw_job.specs.Jobs.{CutWindows, FoundMarkers}
use Rattle.mpw_run.specs.declared.phase.Phase.{Phase}
use Rattle.mpw_run.specs.declared.phase.Phase.TheVariants.{Idle, Cutting, Checking, Finished}
use Rattle.mpw_run.specs.Run.{Planned, Tile, Checks, answered}
use Rattle.mpw_run.specs.Same.{same_snapshot, same_tile_job}
use Rattle.mpw_run.specs.Step.{Run, Offer, Outcome as RunOutcome, answered_by, next_from, handed, taken_in, cut_in, kept, job_of_tile, tile_compared, tile_checked, tile_in, restarted_phase}
use Rattle.mpw_replies.specs.Rows.{◌>>=◌, needed}
use Rattle.mpw_trail.specs.declared.verdict.Code.{Code}
use Rattle.mpw_trail.specs.declared.verdict.Code.TheVariants as code
use Rattle.mpw_wafer.specs.Run.Checking as checking
use Rattle.mpw_requests.specs.declared.request.Request.{Request}
use Rattle.mpw_events.specs.declared.event.Call.{Call}
use Rattle.mpw_events.specs.declared.event.Event.{Event}
use Rattle.mpw_events.specs.declared.event.Event.TheVariants as event
use Rattle.mpw_events.specs.History.{Desk, state_of, state_after}
use Rattle.mpw_events.specs.Step.{State, Outcome, new_state, no_change, outcome_of, event_outcome, not_kept_response, settlement, step, after}
use Rattle.mpw_store_restoring.proofs.Outcomes.{request_keeps}

abbrev pub HasPlan : Phase → Type 0
HasPlan Idle = ⊤
HasPlan (Cutting planned) = plan_for planned.snapshot ≡ Some planned.plan
HasPlan (Checking c) = plan_for c.planned.snapshot ≡ Some c.planned.plan
HasPlan (Finished f) = ⊤

-- ---- the run's own events

abbrev Keeps : RunOutcome → Type 0
Keeps o = HasPlan o.run.phase

one_of : (b : Bool) (x y : RunOutcome) → Keeps x → Keeps y → Keeps (if b then x else y)
one_of true x y f g = f
one_of false x y f g = g

handed_keeps : (run : Run) (c : Checks) (o : Option Offer) → HasPlan run.phase
    → HasPlan (Checking c) → Keeps (handed run c o)
handed_keeps run c None h p = h
handed_keeps run c (Some o) h p = p

take_keeps : (run : Run) (phase : Phase) → HasPlan run.phase → HasPlan phase
    → Keeps (taken_in run phase)
take_keeps run Idle h p = h
take_keeps run (Cutting planned) h p = h
take_keeps run (Checking c) h p = handed_keeps run c (next_from 0 c.tiles) h p
take_keeps run (Finished f) h p = h

cut_keeps : (run : Run) (answer : CutWindows) (phase : Phase) → HasPlan run.phase → HasPlan phase
    → Keeps (cut_in run answer phase)
cut_keeps run answer Idle h p = h
cut_keeps run answer (Cutting planned) h p =
    one_of (same_snapshot answer.job.snapshot planned.snapshot) _ _ p h
cut_keeps run answer (Checking c) h p = h
cut_keeps run answer (Finished f) h p = h

kept_keeps : (run : Run) (c : Checks) (now : List Tile) → HasPlan (Checking c)
    → Keeps (kept run c now)
kept_keeps run c now p = one_of (answered now == tiles c.planned.plan) _ _ tt p

compared_keeps : (run : Run) (c : Checks) (answer : FoundMarkers) (tile : Tile)
    (a : Option (List Marker)) → HasPlan run.phase → HasPlan (Checking c)
    → Keeps (tile_compared run c answer tile a)
compared_keeps run c answer tile (Some m) h p = h
compared_keeps run c answer tile None h p =
    one_of (same_tile_job answer.job (job_of_tile run.number c answer.job.tile)) _ _
    (kept_keeps run c (slice_set c.tiles answer.job.tile (answered_by answer.markers tile)) p) h

checked_keeps : (run : Run) (c : Checks) (answer : FoundMarkers) (tile : Option Tile)
    → HasPlan run.phase → HasPlan (Checking c) → Keeps (tile_checked run c answer tile)
checked_keeps run c answer None h p = h
checked_keeps run c answer (Some tile) h p = compared_keeps run c answer tile tile.answer h p

tile_keeps : (run : Run) (answer : FoundMarkers) (phase : Phase) → HasPlan run.phase
    → HasPlan phase → Keeps (tile_in run answer phase)
tile_keeps run answer Idle h p = h
tile_keeps run answer (Cutting planned) h p = h
tile_keeps run answer (Checking c) h p =
    checked_keeps run c answer (slice_get c.tiles answer.job.tile) h p
tile_keeps run answer (Finished f) h p =
    one_of (nat_lt answer.job.tile (tiles f.planned.plan)) _ _ h h

restart_keeps : (phase : Phase) → HasPlan phase → HasPlan (restarted_phase phase)
restart_keeps Idle p = tt
restart_keeps (Cutting planned) p = p
restart_keeps (Checking c) p = p
restart_keeps (Finished f) p = tt

-- ---- a run that begins

ok_is : (x y : Planned) → ◌≡◌ {A = Result Planned Code} (Ok x) (Ok y) → x ≡ y
ok_is x y e = cc

covered_plan : (s : Snapshot) (p : Planned) (o : Option Tiling) → plan_for s ≡ o
    → checking.cover_test s o ≡ Ok p → plan_for p.snapshot ≡ Some p.plan
covered_plan s p None f e = absurd cc
covered_plan s p (Some plan) f e =
    subst (λ (q : Planned). plan_for q.snapshot ≡ Some q.plan) (ok_is _ p e) f

planned_plan : (s : Snapshot) (p : Planned) (items : List Item)
    → checking.planning_over s items ≡ Ok p → plan_for p.snapshot ≡ Some p.plan
planned_plan s p [] e = absurd cc
planned_plan s p (item ∷ items) e = covered_plan s p (plan_for s) refl e

row_plan : (p : Planned) (b : Result (Unit {0}) Code) (c : Result Deck Code) (s : Deck → Snapshot)
    → (b >>= λ y. c >>= λ deck. checking.planning (s deck)) ≡ Ok p
    → plan_for p.snapshot ≡ Some p.plan
row_plan p (Err w) c s e = absurd cc
row_plan p (Ok y) (Err w) s e = absurd cc
row_plan p (Ok y) (Ok deck) s e = planned_plan (s deck) p (shown (s deck)) e

begun_plan : (s : State) (p : Planned) → checking.run_row s.shelf s.wafer s.run ≡ Ok p
    → plan_for p.snapshot ≡ Some p.plan
unfolding checking.run_row
begun_plan s p e =
    row_plan p (checking.at_rest s.run.phase) (needed code.NoDeck s.wafer.deck)
    (λ deck. checking.snapshot_of deck s.wafer.placings s.shelf) e

-- ---- every event

abbrev Has : State → Type 0
Has s = HasPlan s.run.phase

request_plan : (s : State) (connection : ℕ) (request : Request) → Has s
    → Has (outcome_of s connection request).state
request_plan s connection request h = request_keeps Has s connection request (record {
  now = h;
  policy = λ request p is. h;
  shelf = λ submissions. h;
  wafer = λ w. h;
  begun = begun_plan s;
  left = tt;
  waivers = λ change. h;
})

outcome_plan : (s : State) (e : Event) → Has s → Has (event_outcome s e).state
unfolding event_outcome
outcome_plan s (event.Ask connection request) h = request_plan s connection request h
outcome_plan s (event.Gone connection) h = h
outcome_plan s (event.Take worker) h = take_keeps s.run s.run.phase h h
outcome_plan s (event.Cut answer) h =
    one_of (s.run.number == answer.job.run) _ _ (cut_keeps s.run answer s.run.phase h h) h
outcome_plan s (event.Tile answer) h =
    one_of (s.run.number == answer.job.run) _ _ (tile_keeps s.run answer s.run.phase h h) h
outcome_plan s event.Restart h = restart_keeps s.run.phase h

settled_plan : (s : State) (e : Event) (was : Bool) (o : Outcome) → Has s → Has o.state
    → Has (settlement s e was o).state
settled_plan s e was o h now =
    elim (o.changes && not was) as
    (λ b. Has (cond b (no_change (not_kept_response e) (record s { closed = true })) o).state)
    [ true ↦ h | false ↦ now ]

step_plan : (s : State) (e : Event) (was : Bool) → Has s → Has (after s e was)
unfolding step
step_plan s e was h = settled_plan s e was (event_outcome s e) h (outcome_plan s e h)

calls_plan : (s : State) (calls : List Call) → Has s → Has (state_after s calls)
calls_plan s [] h = h
calls_plan s (call ∷ calls) h =
    calls_plan (after s call.event call.kept) calls (step_plan s call.event call.kept h)

pub has_plan : (d : Desk) → HasPlan (state_of d).run.phase
unfolding new_state
has_plan d = calls_plan (new_state d.officer d.digest) d.history tt
