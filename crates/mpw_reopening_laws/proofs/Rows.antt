-- A row that is stored for a call leads on, from the state that the earlier rows lead to.
use Rattle.std.proofs.Common.{◌≡◌, ◌∙◌, ◌<◌, ◌≤◌, ◌^◌, ℕ, zero, suc, ◌+◌, true, false, List, [], ◌∷◌, ◌++◌, map, get_or, Some, refl, sym, ap, subst, arith}
use Rattle.std.specs.Prelude.{All, is_some}
use Rattle.std.specs.Fmt.{decimal}
use Rattle.std.specs.List.{range_with_len}
use Rattle.std.proofs.lemmas.Bool.{true≢false}
use Rattle.std.proofs.lemmas.Option.{same_Some}
use Rattle.std.proofs.lemmas.Simd.{map-map}
use Rattle.std.proofs.lemmas.List.Elements.{All-nil, All-cons}
use Rattle.mpw_rbac.specs.Policy.{session_of}
use Rattle.mpw_rbac.specs.Rows as rows
use Rattle.mpw_tiles.specs.Plan.{tiles}
use Rattle.mpw_tiles.specs.Snapshots.{IsSnapshot, StandFor, plan_for}
use Rattle.mpw_markers.specs.declared.marker.Marker.{Marker}
use Rattle.mpw_job.specs.Jobs.{CutWindows, FoundMarkers, IsTileAnswer}
use Rattle.mpw_job.specs.Laws.{AnswerTiles, AnswersMakeTheLayout, LayoutDeterminesMarkers, tile_job_of}
use Rattle.mpw_job.specs.Layout.{AreLayoutMarkers}
use Rattle.mpw_run.specs.declared.phase.Phase.{Phase}
use Rattle.mpw_run.specs.declared.phase.Phase.TheVariants.{Checking}
use Rattle.mpw_run.specs.Laws.{StitchedComputes}
use Rattle.mpw_run.specs.Run.{Checks}
use Rattle.mpw_run.specs.Step as run
use Rattle.mpw_trail.specs.declared.entry.Entry.{Entry as Noted}
use Rattle.mpw_requests.specs.declared.request.Request.{Request}
use Rattle.mpw_store_rows.specs.Rows.{Entry}
use Rattle.mpw_store_rows.specs.declared.row.Kind.TheVariants as kind
use Rattle.mpw_store_text.specs.Reading.{StoredAreRead, read_as}
use Rattle.mpw_store_text.specs.Stored.{IsRequest, stored_line, stored_payload}
use Rattle.mpw_events.specs.History.{Desk, answering, state_of}
use Rattle.mpw_events.specs.Restoring.{job_cut}
use Rattle.mpw_events.specs.Step.{State, Outcome, entries_of, event_outcome, with_trail, outcome_of}
use Rattle.mpw_events.specs.declared.event.Event.{Event}
use Rattle.mpw_events.specs.declared.event.Event.TheVariants as event
use Rattle.mpw_events.specs.declared.keeper.Change.{Change}
use Rattle.mpw_events.specs.declared.keeper.Change.TheVariants as change
use Rattle.mpw_events.specs.declared.keeper.KeptChange.{KeptChange}
use Rattle.mpw_store_keeper.specs.Kept.{row_for}
use Rattle.mpw_store_restoring.specs.Restoring.{AreFound, Asks, IsKeptOf, Restores, behind, changes_by, tile_jobs_by}
use Rattle.mpw_store_restoring.proofs.Again.{again_state, behind_one, changed, one_changes}
use Rattle.mpw_store_restoring.proofs.Finishing.{work_finishes}
use Rattle.mpw_store_restoring.proofs.Planned.{has_plan, HasPlan}
use Rattle.mpw_reopening_laws.specs.Leading.{stored_state}
use Rattle.mpw_reopening_laws.proofs.StoredOutcomes.{Same, request_same, stored_outcome}
use Rattle.mpw_reopening_laws.proofs.Working.{IsDone, cutting_run, finished_state, work_done}

-- each desk whose state is one that rows lead to accepts the row, and then has the next such state
pub record RowLeads (s : State) (trail : List Noted) (row : Entry) (s' : State)
    (trail' : List Noted) : Type 0 where
  pub some : (d : Desk) → state_of d ≡ stored_state s trail → (near : Desk) × Restores d row near
  pub each : (d near : Desk) → state_of d ≡ stored_state s trail → Restores d row near
      → state_of near ≡ stored_state s' trail'

-- a row of one event
one_event : (d : Desk) (entry : Entry) (e : Event) (change : Change)
    → (state_of d).closed ≡ false → IsKeptOf d entry (e ∷ []) change
    → (answering d e true).changes
    ≡ (let kept : KeptChange = record { connection = entry.connection; change = change } in kept)
    ∷ []
    → Restores d entry (answering d e true).desk
one_event d entry e change is kept changes = record {
  is_open = is;
  events = e ∷ [];
  change = change;
  kept_of = kept;
  changes = one_changes d e ∙ changes;
  desk = sym (behind_one d e);
}

is_open : (s : State) (trail : List Noted) (d : Desk) → state_of d ≡ stored_state s trail
    → (state_of d).closed ≡ false
is_open s trail d is = ap (λ (x : State). x.closed) is

state_behind : (d : Desk) (e : Event) (near : Desk) (u : State) → near ≡ behind d (e ∷ [])
    → state_of d ≡ u → state_of near ≡ with_trail u e (event_outcome u e)
state_behind d e near u desk is =
    ap state_of (desk ∙ behind_one d e) ∙ again_state d e
    ∙ ap (λ (x : State). with_trail x e (event_outcome x e)) is

-- the plan of a run in `Checking`, as the earlier rows have it
pub plan_stored : (s : State) (trail : List Noted) (d : Desk) (c : Checks)
    → state_of d ≡ stored_state s trail → s.run.phase ≡ Checking c
    → plan_for c.planned.snapshot ≡ Some c.planned.plan
plan_stored s trail d c is phase =
    subst HasPlan (ap (λ (x : State). x.run.phase) is ∙ ap run.restarted_phase phase) (has_plan d)

-- ---- requests

module _ (read : StoredAreRead) (s : State) (trail : List Noted) (place connection : ℕ)
    (request : Request) (right : IsRequest request)
    (changes : (outcome_of s connection request).changes ≡ true)
  where
    abbrev asked : Event
    asked = event.Ask connection request

    wanted : (x : State) → event_outcome x asked ≡ outcome_of x connection request
    unfolding event_outcome
    wanted x = refl

    abbrev row : Entry
    row = row_for place connection (change.Request request)

    alike : outcome_of (stored_state s trail) connection request
        ≡ stored_outcome (outcome_of s connection request) trail
    alike = by (request_same s trail connection request)
      where
        by : Same s trail (outcome_of s connection request)
            (outcome_of (stored_state s trail) connection request)
            → outcome_of (stored_state s trail) connection request
            ≡ stored_outcome (outcome_of s connection request) trail
        by (Same.stays none same) = absurd (true≢false (sym changes ∙ none))
        by (Same.moves all same) = same

    reads : read_as (stored_line request) (stored_payload request) ≡ Some request
    reads = read request right

    asks : Asks row request
    asks = record { kind = refl; reads = reads }

    changes_there : (d : Desk) → state_of d ≡ stored_state s trail
        → (event_outcome (state_of d) asked).changes ≡ true
    changes_there d is =
        ap (λ (x : State). (event_outcome x asked).changes) is
        ∙ ap (λ (o : Outcome). o.changes) (wanted (stored_state s trail) ∙ alike)

    left : (d near : Desk) (other : Request) → state_of d ≡ stored_state s trail
        → Asks row other → near ≡ behind d (event.Ask connection other ∷ [])
        → state_of near ≡ stored_state (outcome_of s connection request).state
        (trail ++ entries_of s.policy (outcome_of s connection request).state.policy asked
        (outcome_of s connection request).response)
    left d near other is told desk =
        let own : other ≡ request = same_Some _ _ (sym told.reads ∙ reads) in
        state_behind d asked near (stored_state s trail)
        (desk ∙ ap (λ r. behind d (event.Ask connection r ∷ [])) own) is
        ∙ ap (λ (o : Outcome). with_trail (stored_state s trail) asked o)
        (wanted (stored_state s trail) ∙ alike)

    pub asked_leads : RowLeads s trail row (outcome_of s connection request).state
        (trail ++ entries_of s.policy (outcome_of s connection request).state.policy asked
        (outcome_of s connection request).response)
    asked_leads = record {
      some = λ d is. (
        (answering d asked true).desk,
        one_event d row asked (change.Request request) (is_open s trail d is)
            (IsKeptOf.asked request asks) (changed d asked _ refl (changes_there d is)),
      );
      each = λ d near is r. by d near is r.events r.change r.kept_of r.desk;
    }
      where
        by : (d near : Desk) → state_of d ≡ stored_state s trail → (events : List Event)
            (own : Change) → IsKeptOf d row events own → near ≡ behind d events
            → state_of near ≡ stored_state (outcome_of s connection request).state
            (trail ++ entries_of s.policy (outcome_of s connection request).state.policy asked
            (outcome_of s connection request).response)
        by d near is _ _ (IsKeptOf.asked other told) desk = left d near other is told desk
        by d near is _ _ (IsKeptOf.gone told) desk = absurd (two told.kind)
          where
            two : kind.Request ≡ kind.Gone → ⊥
            two e = cc e
        by d near is _ _ (IsKeptOf.finished a found told job are) desk = absurd (two told.kind)
          where
            two : kind.Request ≡ kind.Finished → ⊥
            two e = cc e

-- ---- connections' ends

abbrev pub gone_state : State → ℕ → State
gone_state s connection = record s { policy = rows.end_session s.policy connection }

module _ (s : State) (trail : List Noted) (place connection : ℕ)
    (has : is_some (session_of s.policy connection) ≡ true)
  where
    abbrev gone : Event
    gone = event.Gone connection

    abbrev gone_row : Entry
    gone_row = row_for place connection change.Gone

    gone_changes : (x : State) → (event_outcome x gone).changes
        ≡ is_some (session_of x.policy connection)
    unfolding event_outcome
    gone_changes x = refl

    gone_left : with_trail (stored_state s trail) gone (event_outcome (stored_state s trail) gone)
        ≡ stored_state (gone_state s connection) trail
    unfolding event_outcome
    gone_left = refl

    pub gone_leads : RowLeads s trail gone_row (gone_state s connection) trail
    gone_leads = record {
      some = λ d is. (
        (answering d gone true).desk,
        one_event d gone_row gone change.Gone (is_open s trail d is)
            (IsKeptOf.gone (record { kind = refl; line = refl; payload = refl }))
            (changed d gone _ refl (gone_changes (state_of d)
            ∙ ap (λ (x : State). is_some (session_of x.policy connection)) is ∙ has)),
      );
      each = λ d near is r. by d near is r.events r.change r.kept_of r.desk;
    }
      where
        by : (d near : Desk) → state_of d ≡ stored_state s trail → (events : List Event)
            (own : Change) → IsKeptOf d gone_row events own → near ≡ behind d events
            → state_of near ≡ stored_state (gone_state s connection) trail
        by d near is _ _ (IsKeptOf.gone told) desk =
            state_behind d gone near (stored_state s trail) desk is ∙ gone_left
        by d near is _ _ (IsKeptOf.asked other told) desk = absurd (two told.kind)
          where
            two : kind.Gone ≡ kind.Request → ⊥
            two e = cc e
        by d near is _ _ (IsKeptOf.finished a found told job are) desk = absurd (two told.kind)
          where
            two : kind.Gone ≡ kind.Finished → ⊥
            two e = cc e

-- ---- finished runs

-- the run of the state is in `Checking`, each of its tiles has an answer now, and the book is that of the
-- layout
pub record Finishes (s : State) (c : Checks) (book : List Marker) : Type 0 where
  pub phase : s.run.phase ≡ Checking c
  pub snapshot : IsSnapshot c.planned.snapshot
  pub lists : List (List Marker)
  pub answered : AnswerTiles c.planned.snapshot c.planned.plan c.windows s.run.number lists
  pub windows : StandFor c.planned.snapshot c.windows
  pub layout : AreLayoutMarkers c.planned.snapshot book

module _ (law : AnswersMakeTheLayout) (computes : StitchedComputes)
    (one : LayoutDeterminesMarkers) (s : State) (trail : List Noted) (place number : ℕ)
    (c : Checks) (book : List Marker) (is_number : number ≡ s.run.number)
    (small : s.run.number < 2 ^ 32) (h : Finishes s c book)
  where
    abbrev finished_row : Entry
    finished_row = row_for place 0 (change.Finished number)

    abbrev cut : CutWindows
    cut = record {
      job = record { run = s.run.number; snapshot = c.planned.snapshot };
      windows = c.windows;
    }

    phase_there : (d : Desk) → state_of d ≡ stored_state s trail
        → (state_of d).run ≡ cutting_run s.run.number c.planned
    phase_there d is =
        ap (λ (x : State). x.run) is
        ∙ ap (λ (p : Phase). (let r : run.Run = record {
          number = s.run.number;
          phase = run.restarted_phase p;
        } in r)) h.phase

    plan_there : (d : Desk) → state_of d ≡ stored_state s trail
        → plan_for c.planned.snapshot ≡ Some c.planned.plan
    plan_there d is = plan_stored s trail d c is h.phase

    job_there : (d : Desk) → state_of d ≡ stored_state s trail
        → job_cut (state_of d).run ≡ Some cut.job
    job_there d is = ap job_cut (phase_there d is)

    abbrev markers_of : ℕ → FoundMarkers
    markers_of tile = record {
      job = tile_job_of c.planned.snapshot c.planned.plan c.windows s.run.number tile;
      markers = get_or h.lists tile [];
    }

    abbrev found : List FoundMarkers
    found = map markers_of (range_with_len 0 (tiles c.planned.plan))

    found_right : (from count : ℕ) → from + count ≤ tiles c.planned.plan
        → All IsTileAnswer (map markers_of (range_with_len from count))
    found_right from zero within = All-nil IsTileAnswer
    found_right from (suc count) within =
        All-cons IsTileAnswer (markers_of from)
        (map markers_of (range_with_len (from + 1) count))
        (h.answered.answered from (omega (arith, within)))
        (found_right (from + 1) count (omega (arith, within)))

    are_found : plan_for c.planned.snapshot ≡ Some c.planned.plan → AreFound cut found
    are_found plan = record {
      windows = h.windows;
      jobs = map-map (λ (f : FoundMarkers). f.job) markers_of
          (range_with_len 0 (tiles c.planned.plan))
          ∙ sym (ap (tile_jobs_by cut) plan);
      right = found_right 0 (tiles c.planned.plan) (omega arith);
    }

    finished_restores : (d : Desk) → state_of d ≡ stored_state s trail
        → Restores d finished_row (behind d (event.Cut cut ∷ map event.Tile found))
    finished_restores d is =
        let job = job_there d is in
        let are = are_found (plan_there d is) in
        record {
          is_open = is_open s trail d is;
          events = event.Cut cut ∷ map event.Tile found;
          change = change.Finished s.run.number;
          kept_of = IsKeptOf.finished cut found (record {
            kind = refl;
            small = small;
            connection = refl;
            line = ap decimal is_number;
            payload = refl;
          }) job are;
          changes = work_finishes d cut found job are;
          desk = refl;
        }

    -- whatever computes its answers
    finished_left : (d near : Desk) (a : CutWindows) (others : List FoundMarkers)
        (kept : KeptChange) → state_of d ≡ stored_state s trail → AreFound a others
        → changes_by d (event.Cut a ∷ map event.Tile others) ≡ kept ∷ []
        → near ≡ behind d (event.Cut a ∷ map event.Tile others)
        → state_of near ≡ stored_state (finished_state s c.planned book) trail
    finished_left d near a others kept is are changes desk =
        let done : IsDone (state_of d) c.planned
        (state_of (behind d (event.Cut a ∷ map event.Tile others))) =
        work_done law computes d c.planned a others kept
        (ap (λ (r : run.Run). r.phase) (phase_there d is)) h.snapshot (plan_there d is) are
        changes in
        ap state_of desk ∙ done.state
        ∙ ap (λ (x : State). finished_state x c.planned done.book) is
        ∙ ap (λ (b : List Marker). finished_state (stored_state s trail) c.planned b)
        (one c.planned.snapshot done.book book done.layout h.layout)

    pub finished_leads : RowLeads s trail finished_row (finished_state s c.planned book) trail
    finished_leads = record {
      some = λ d is. (
        behind d (event.Cut cut ∷ map event.Tile found),
        finished_restores d is,
      );
      each = λ d near is r. by d near is r.events r.change r.kept_of r.changes r.desk;
    }
      where
        by : (d near : Desk) → state_of d ≡ stored_state s trail → (events : List Event)
            (own : Change) → IsKeptOf d finished_row events own
            → changes_by d events
            ≡ (let kept : KeptChange = record { connection = 0; change = own } in kept) ∷ []
            → near ≡ behind d events
            → state_of near ≡ stored_state (finished_state s c.planned book) trail
        by d near is _ _ (IsKeptOf.finished a others told job are) changes desk =
            finished_left d near a others _ is are changes desk
        by d near is _ _ (IsKeptOf.asked other told) changes desk = absurd (two told.kind)
          where
            two : kind.Finished ≡ kind.Request → ⊥
            two e = cc e
        by d near is _ _ (IsKeptOf.gone told) changes desk = absurd (two told.kind)
          where
            two : kind.Finished ≡ kind.Gone → ⊥
            two e = cc e
