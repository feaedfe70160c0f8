-- Rows that can be reopened, and those that are added after them.
use Rattle.std.proofs.Common.{◌≡◌, ◌∙◌, ◌<◌, ◌≤◌, ◌^◌, ℕ, suc, ◌+◌, Bool, true, false, List, [], ◌∷◌, ◌++◌, length, Some, refl, sym, ap, subst, arith, append-nil, append_assoc, length-append}
use Rattle.std.specs.Prelude.{All, AllPairs, is_some, if◌then◌else◌}
use Rattle.std.specs.Option.{option_to_list}
use Rattle.std.proofs.lemmas.Bool.{true≢false}
use Rattle.std.proofs.lemmas.List.Elements.{All-head, All-tail}
use Rattle.mpw_roles.specs.Hierarchy.{Name}
use Rattle.mpw_rbac.specs.Policy.{session_of}
use Rattle.mpw_tiles.specs.Plan.{tiles}
use Rattle.mpw_tiles.specs.Snapshots.{plan_for}
use Rattle.mpw_job.specs.Answers.{TileJob}
use Rattle.mpw_job.specs.Jobs.{FoundMarkers, IsTileAnswer}
use Rattle.mpw_job.specs.Laws.{AnswersMakeTheLayout, LayoutDeterminesMarkers}
use Rattle.mpw_run.specs.Laws.{StitchedComputes, finishes}
use Rattle.mpw_run.specs.Run.{Tile, Checks, answered, answers_of}
use Rattle.mpw_run.specs.Step as run
use Rattle.mpw_run.specs.Stitching.{stitched}
use Rattle.mpw_run.proofs.Opened.{answers_all, finishes as makes_the_book}
use Rattle.mpw_trail.specs.declared.entry.Entry.{Entry as Noted}
use Rattle.mpw_store_rows.specs.Rows.{Entry}
use Rattle.mpw_store_text.specs.Reading.{StoredAreRead}
use Rattle.mpw_events.specs.GoingOn.{changes_of}
use Rattle.mpw_events.specs.History.{Desk, new_desk, state_after, state_of}
use Rattle.mpw_events.specs.Keeping.{change_of, change_to_keep}
use Rattle.mpw_events.specs.Step.{State, Outcome, after, entries_of, event_outcome, of_run, outcome_of, step}
use Rattle.mpw_events.specs.declared.event.Call.{Call}
use Rattle.mpw_events.specs.declared.event.Event.{Event}
use Rattle.mpw_events.specs.declared.event.Event.TheVariants as event
use Rattle.mpw_events.specs.declared.event.Response.{Response}
use Rattle.mpw_events.specs.declared.keeper.Change.TheVariants as change
use Rattle.mpw_events.specs.declared.keeper.KeptChange.{KeptChange}
use Rattle.mpw_store_keeper.specs.Kept.{row_of, rows_from}
use Rattle.mpw_stored_desk.specs.Reopening.{gone_row, gone_rows}
use Rattle.mpw_store_restoring.specs.Restoring.{Folds, Restores}
use Rattle.mpw_run_laws.specs.Right.{IsRight, IsRightCall, IsRightHistory}
use Rattle.mpw_run_laws.proofs.Moves.{Answered, IsAsked, answers, cuts, takes, tiles_with}
use Rattle.mpw_run_laws.proofs.Calls.{cut_goes, does, taken_goes}
use Rattle.mpw_reopening_laws.specs.Leading.{AreStorable, IsStorable, LeadTo, entries_stored, stored_state, trail_stored}
use Rattle.mpw_reopening_laws.proofs.EndedSessions.{ended, goes_on}
use Rattle.mpw_reopening_laws.proofs.RowFolds.{Splits, ends_behind, folds_on, folds_part, length_rows, rows_behind, splits}
use Rattle.mpw_reopening_laws.proofs.Rows.{RowLeads, asked_leads, finished_leads, gone_leads, gone_state, plan_stored}
use Rattle.mpw_reopening_laws.proofs.Sound.{IsSoundRun, answer_right, number_on, sound_on, sound_phase}
use Rattle.mpw_reopening_laws.proofs.Storing.{Stores, stores}
use Rattle.mpw_reopening_laws.proofs.Working.{finished_state, last_state}

-- the laws that the proofs use
pub record Laws : Type 0 where
  pub layout : AnswersMakeTheLayout
  pub computes : StitchedComputes
  pub one : LayoutDeterminesMarkers
  pub read : StoredAreRead

module _ (officer : Name) (digest : List ℕ) where
  abbrev Leads : List Entry → State → List Noted → Type 0
  Leads entries s trail = LeadTo officer digest entries s trail

  abbrev begun : Desk
  begun = new_desk officer digest

  -- ---- the same rows, and the same state

  pub lead_as : (entries : List Entry) (s s' : State) (trail trail' : List Noted)
      → stored_state s trail ≡ stored_state s' trail' → Leads entries s trail
      → Leads entries s' trail'
  lead_as entries s s' trail trail' same h = record {
    accepted = h.accepted;
    whole = h.whole;
    folds = h.folds;
    each = λ d f. h.each d f ∙ same;
    counted = subst (λ n. n ≤ length entries) (ap (λ (x : State). x.run.number) same) h.counted;
  }

  pub lead_rows : (entries others : List Entry) (s : State) (trail : List Noted)
      → entries ≡ others → Leads entries s trail → Leads others s trail
  lead_rows entries others s trail same h = subst (λ l. Leads l s trail) same h

  pub lead_trail : (entries : List Entry) (s : State) (trail trail' : List Noted)
      → trail ≡ trail' → Leads entries s trail → Leads entries s trail'
  lead_trail entries s trail trail' same h = subst (λ l. Leads entries s l) same h

  -- ---- one more row

  same_number : (n : ℕ) → n ≤ n + 1
  same_number n = omega arith

  abbrev Next : Desk → Entry → Type 0
  Next d entry = (near : Desk) × Restores d entry near

  pub lead_row : (entries : List Entry) (s s' : State) (trail trail' : List Noted) (row : Entry)
      → Leads entries s trail → RowLeads s trail row s' trail'
      → s'.run.number ≤ s.run.number + 1 → Leads (entries ++ row ∷ []) s' trail'
  lead_row entries s s' trail trail' row h leads number =
      let next = leads.some h.whole (h.each h.whole h.folds) in
      record {
        accepted = accepts;
        whole = next.0;
        folds = folds_on begun entries (row ∷ []) h.whole next.0 h.folds (next.0, next.1, refl);
        each = all_lead;
        counted = (let c = h.counted in
            omega (arith, c, number, length-append entries (row ∷ [])));
      }
    where
      accepts : (first : List Entry) (next : Entry) (others : List Entry) (d : Desk)
          → entries ++ row ∷ [] ≡ first ++ next ∷ others → Folds begun first d → Next d next
      accepts first next others d is f = by (splits entries row first next others is)
        where
          by : Splits entries row first next → Next d next
          by (Splits.last all own) =
              subst (Next d) (sym own)
              (leads.some d (h.each d (subst (λ l. Folds begun l d) all f)))
          by (Splits.within more same) = h.accepted first next more d same f

      all_lead : (d : Desk) → Folds begun (entries ++ row ∷ []) d → state_of d ≡ stored_state s' trail'
      all_lead d f =
          let p = folds_part begun entries (row ∷ []) d f in
          ap state_of p.2.2 ∙ leads.each p.0 p.2.0 (h.each p.0 p.1) p.2.1

  -- ---- the ends of connections

  pub ends_lead : (entries : List Entry) (s : State) (trail : List Noted) (connections : List ℕ)
      → Leads entries s trail → AllPairs (λ x y. x < y) connections
      → All (λ c. is_some (session_of s.policy c) ≡ true) connections
      → Leads (entries ++ gone_rows (length entries + 1) connections)
      (let x : State = record s { policy = ended s.policy connections } in x) trail
  ends_lead entries s trail [] h apart have =
      lead_rows entries (entries ++ []) s trail (sym (append-nil entries)) h
  ends_lead entries s trail (c ∷ connections) h apart have =
      let row = gone_row (length entries + 1) c in
      lead_rows _ _ _ trail (ends_behind entries c connections)
      (ends_lead (entries ++ row ∷ []) (gone_state s c) trail connections
      (lead_row entries s (gone_state s c) trail trail row h
      (gone_leads s trail (length entries + 1) c
      (All-head (λ x. is_some (session_of s.policy x) ≡ true) c connections have))
      (same_number s.run.number))
      (λ i j d below within. apart (suc i) (suc j) d (omega arith) (omega arith))
      (λ k d within. goes_on s.policy c _
      (λ same. omega (arith, same, apart 0 (suc k) d (omega arith) (omega arith)))
      (All-tail (λ x. is_some (session_of s.policy x) ≡ true) c connections have k d within)))

  -- ---- one more call

  abbrev own_changes : State → Call → List KeptChange
  own_changes s call =
      option_to_list (change_to_keep call.event (step s call.event call.kept).changes)

  abbrev LeadsOn : List Entry → State → List Noted → Call → Type 0
  LeadsOn entries s trail call =
      Leads (entries ++ rows_from (length entries + 1) (own_changes s call))
      (after s call.event call.kept) (trail ++ entries_stored s call)

  abbrev own_entries : State → Event → Outcome → List Noted
  own_entries s e o = entries_of s.policy o.state.policy e o.response

  -- nothing is stored
  leads_still : (entries : List Entry) (s : State) (trail : List Noted) (call : Call)
      → Leads entries s trail → (step s call.event call.kept).changes ≡ false
      → stored_state (after s call.event call.kept) trail ≡ stored_state s trail
      → LeadsOn entries s trail call
  leads_still entries s trail call h none same =
      let changes : own_changes s call ≡ [] =
      ap (λ b. option_to_list (change_to_keep call.event b)) none in
      let noted : entries_stored s call ≡ [] =
      ap (λ (b : Bool). if b
      then own_entries s call.event (step s call.event call.kept) else []) none in
      lead_rows entries _ _ _
      (sym (append-nil entries)
      ∙ ap (λ l. entries ++ rows_from (length entries + 1) l) (sym changes))
      (lead_trail entries _ trail _
      (sym (append-nil trail) ∙ ap (λ l. trail ++ l) (sym noted))
      (lead_as entries s (after s call.event call.kept) trail trail (sym same) h))

  -- a change is stored
  leads_more : (entries : List Entry) (s : State) (trail : List Noted) (call : Call) (o : Outcome)
      (kept : KeptChange) → step s call.event call.kept ≡ o → o.changes ≡ true
      → change_of call.event ≡ Some kept
      → Leads (entries ++ row_of (length entries + 1) kept ∷ []) o.state
      (trail ++ own_entries s call.event o)
      → LeadsOn entries s trail call
  leads_more entries s trail call o kept same changes own h =
      let stored : own_changes s call ≡ kept ∷ [] =
      ap (λ (x : Outcome). option_to_list (change_to_keep call.event x.changes)) same
      ∙ ap (λ b. option_to_list (change_to_keep call.event b)) changes
      ∙ ap option_to_list own in
      let noted : entries_stored s call ≡ own_entries s call.event o =
      ap (λ (x : Outcome). if x.changes then own_entries s call.event x else []) same
      ∙ ap (λ (b : Bool). if b then own_entries s call.event o else []) changes in
      lead_rows _ _ _ _
      (ap (λ l. entries ++ rows_from (length entries + 1) l) (sym stored))
      (lead_trail _ _ _ _ (ap (λ l. trail ++ l) (sym noted))
      (lead_as _ o.state (after s call.event call.kept) _ _
      (sym (ap (λ (x : Outcome). stored_state x.state (trail ++ own_entries s call.event o)) same))
      h))

  module _ (laws : Laws) where
    -- the last tile of a run
    last_leads : (s : State) (trail : List Noted) (place : ℕ) (f : FoundMarkers) (c : Checks)
        (x : Tile) → IsAsked s.run f c x
        → answered (tiles_with c f x) ≡ tiles c.planned.plan
        → IsTileAnswer f → IsSoundRun s.run
        → plan_for c.planned.snapshot ≡ Some c.planned.plan
        → s.run.number < 2 ^ 32
        → RowLeads s trail (row_of place (let kept : KeptChange = record {
          connection = 0;
          change = change.Finished f.job.run;
        } in kept))
        (finished_state s c.planned (stitched (answers_of (tiles_with c f x)))) trail
    last_leads s trail place f c x asked all right sound plan small =
        let checks = sound_phase s.run c asked.phase sound in
        let told = answer_right s.run f c x asked right in
        finished_leads laws.layout laws.computes laws.one s trail place f.job.run c
        (stitched (answers_of (tiles_with c f x)))
        (ap (λ (j : TileJob). j.run) asked.job) small
        (record {
          phase = asked.phase;
          snapshot = checks.snapshot;
          lists = answers_of (tiles_with c f x);
          answered = answers_all s.run.number c f.job.tile x f.markers checks.checks asked.at told
              all;
          windows = checks.checks.windows;
          layout = makes_the_book laws.layout laws.computes s.run.number c f.job.tile x f.markers
              (record { snapshot = checks.snapshot; plan = plan }) checks.checks asked.at told all;
        })

    -- a call whose change is stored
    change_leads : (entries : List Entry) (s : State) (trail : List Noted) (e : Event)
        (r : Response) (kept : Bool) → Leads entries s trail → IsSoundRun s.run → IsRight e
        → IsStorable e → s.run.number < 2 ^ 32
        → (after s e kept).run.number ≤ s.run.number + 1 → step s e kept ≡ event_outcome s e
        → (event_outcome s e).changes ≡ true
        → LeadsOn entries s trail (record { event = e; response = r; kept = kept })
    unfolding event_outcome
    change_leads entries s trail (event.Ask connection request) r kept h sound right own small number
        same changes =
        leads_more entries s trail
        (let call : Call = record {
          event = event.Ask connection request;
          response = r;
          kept = kept;
        } in call)
        (outcome_of s connection request) _ same changes refl
        (lead_row entries s (outcome_of s connection request).state trail _ _ h
        (asked_leads laws.read s trail (length entries + 1) connection request own changes)
        (subst (λ (o : Outcome). o.state.run.number ≤ s.run.number + 1) same number))
    change_leads entries s trail (event.Gone connection) r kept h sound right own small number same
        changes =
        leads_more entries s trail
        (let call : Call = record {
          event = event.Gone connection;
          response = r;
          kept = kept;
        } in call)
        _ _ same changes refl
        (lead_trail _ (gone_state s connection) trail _ (sym (append-nil trail))
        (lead_row entries s (gone_state s connection) trail trail _ h
        (gone_leads s trail (length entries + 1) connection changes)
        (same_number s.run.number)))
    change_leads entries s trail (event.Take worker) r kept h sound right own small number same
        changes =
        absurd (true≢false (sym changes ∙ taken_goes s.run _ (takes s.run)))
    change_leads entries s trail (event.Cut a) r kept h sound right own small number same changes =
        absurd (true≢false (sym changes ∙ cut_goes s.run a _ (cuts s.run a)))
    change_leads entries s trail (event.Tile f) r kept h sound right own small number same changes =
        by (answers s.run f)
      where
        o : run.Outcome
        o = run.tile_answered s.run f

        by : Answered s.run f o
            → LeadsOn entries s trail (record { event = event.Tile f; response = r; kept = kept })
        by (Answered.stays is k none) = absurd (true≢false (sym changes ∙ none))
        by (Answered.more c x asked told is other) =
            absurd (true≢false (sym changes ∙ ap finishes told))
        by (Answered.last c x asked told is all) =
            let book = stitched (answers_of (tiles_with c f x)) in
            let plan = plan_stored s trail h.whole c (h.each h.whole h.folds) asked.phase in
            leads_more entries s trail
            (let call : Call = record { event = event.Tile f; response = r; kept = kept } in call)
            (of_run s o) _ same changes refl
            (lead_trail _ (of_run s o).state trail _ (sym (append-nil trail))
            (lead_as _ (finished_state s c.planned book) (of_run s o).state trail trail
            (sym (ap (λ (x : State). stored_state x trail)
            (last_state s o s.run.number c.planned book (ap finishes told) is)))
            (lead_row entries s (finished_state s c.planned book) trail trail _ h
            (last_leads s trail (length entries + 1) f c x asked all right sound plan small)
            (same_number s.run.number))))
    change_leads entries s trail event.Restart r kept h sound right own small number same changes =
        absurd own

    call_leads : (entries : List Entry) (s : State) (trail : List Noted) (call : Call)
        → Leads entries s trail → IsSoundRun s.run → IsRightCall s call → IsStorable call.event
        → s.run.number < 2 ^ 32 → LeadsOn entries s trail call
    call_leads entries s trail call h sound right own small =
        by (stores s trail call.event call.kept own)
      where
        by : Stores s trail call.event call.kept → LeadsOn entries s trail call
        by (Stores.nothing none same) = leads_still entries s trail call h none same
        by (Stores.its_change same changes) =
            change_leads entries s trail call.event call.response call.kept h sound right.right own
            small (number_on s call (after s call.event call.kept)
            (does s call right.legal.told)) same changes

    -- ---- all calls

    pub calls_lead : (entries : List Entry) (s : State) (trail : List Noted) (calls : List Call)
        → Leads entries s trail → IsSoundRun s.run → IsRightHistory s calls → AreStorable calls
        → length entries + length (changes_of s calls) < 2 ^ 32
        → Leads (entries ++ rows_from (length entries + 1) (changes_of s calls))
        (state_after s calls) (trail ++ trail_stored s calls)
    calls_lead entries s trail [] h sound right own few =
        lead_rows entries _ s _ (sym (append-nil entries))
        (lead_trail entries s trail _ (sym (append-nil trail)) h)
    calls_lead entries s trail (call ∷ calls) h sound right own few =
        let near = after s call.event call.kept in
        let first = own_changes s call in
        let more = changes_of near calls in
        let rows = rows_from (length entries + 1) first in
        let count = h.counted in
        let whole = length-append first more in
        lead_rows _ _ (state_after near calls) _ (rows_behind entries first more)
        (lead_trail _ (state_after near calls) _ _
        (append_assoc trail (entries_stored s call) (trail_stored near calls))
        (calls_lead (entries ++ rows) near (trail ++ entries_stored s call) calls
        (call_leads entries s trail call h sound right.0 own.0 (omega (arith, count, few)))
        (sound_on s call near (does s call right.0.legal.told) right.0.right sound)
        right.1 own.1
        (omega (
          arith,
          few,
          whole,
          length-append entries rows,
          length_rows (length entries + 1) first,
        ))))
