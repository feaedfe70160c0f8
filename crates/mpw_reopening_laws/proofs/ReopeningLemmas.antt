-- What a desk stores can be reopened, again and again.
use Rattle.std.proofs.Common.{map, ◌≡◌, ◌∙◌, ◌<◌, ◌≤◌, ℕ, ◌+◌, true, List, [], ◌∷◌, ◌++◌, length, refl, sym, ap, subst, arith, inl, inr, length-append}
use Rattle.std.specs.Prelude.{All, ◌⊎◌, Contains, is_some}
use Rattle.std.proofs.lemmas.List.{length-map}
use Rattle.std.proofs.lemmas.List.Sorted.{length_permutation}
use Rattle.std.proofs.lemmas.List.Elements.{All-contains_itself, All-weaker}
use Rattle.std.proofs.lemmas.List.Kept.{AllPairs-from_increasing}
use Rattle.sqlite.specs.Schema.{Schema}
use Rattle.sqlite.specs.State as sql
use Rattle.sqlite.specs.Tree.{Trees}
use Rattle.mpw_roles.specs.Hierarchy.{Name}
use Rattle.mpw_rbac.specs.Policy.{Policy, session_of}
use Rattle.mpw_rbac.specs.Rows as rows
use Rattle.mpw_run.specs.declared.phase.Phase.{Phase}
use Rattle.mpw_run.specs.declared.phase.Phase.TheVariants.{Idle, Cutting, Checking, Finished}
use Rattle.mpw_run.specs.Step as run
use Rattle.mpw_trail.specs.declared.entry.Entry.{Entry as Noted}
use Rattle.mpw_events.specs.History.{Desk, answering, new_desk, state_after, state_of}
use Rattle.mpw_events.specs.Step.{State, event_outcome, new_state}
use Rattle.mpw_events.specs.declared.event.Event.TheVariants as event
use Rattle.mpw_stored_desk.specs.Reopening.{CantGoOn, Finds, gone_rows}
use Rattle.mpw_stored_desk.proofs.FoldingLemmas.{folds}
use Rattle.mpw_store_restoring.specs.Restoring.{Folds, Restores}
use Rattle.mpw_store_restoring.proofs.Again.{again_state}
use Rattle.mpw_store.specs.Changes.{HasRows, changes, changes_schema, columns, no_schema, shown}
use Rattle.mpw_store.specs.Entries.{entries_from}
use Rattle.mpw_store.proofs.EntryLemmas.{at_their_places}
use Rattle.mpw_store.specs.Reading.{Refuses, StopsIn}
use Rattle.mpw_store_rows.specs.Rows.{Entry}
use Rattle.mpw_store_rows.specs.declared.row.TheConstants.{MAX_ROWS}
use Rattle.mpw_store_keeper.specs.Kept.{rows_from}
use Rattle.mpw_events.specs.GoingOn.{changes_of}
use Rattle.mpw_reopening_laws.specs.Leading.{LeadTo, reopened_state, stored_state}
use Rattle.mpw_reopening_laws.specs.ReopeningLaws.{HistoriesCanBeReopened, ReopenedDesksHaveTheState, RowsAreNeverBad, StoresCanBeReopenedAgain}
use Rattle.mpw_reopening_laws.proofs.EndedSessions.{all_ended, ended}
use Rattle.mpw_reopening_laws.proofs.Leads.{Laws, calls_lead, ends_lead, lead_as, lead_rows}
use Rattle.mpw_reopening_laws.proofs.RowFolds.{length_rows, rows_append}
use Rattle.mpw_reopening_laws.proofs.Sound.{IsSoundRun, sound_restarted}

-- ---- a new desk

least : 0 ≤ 0
least = omega arith

new_leads : (officer : Name) (digest : List ℕ)
    → LeadTo officer digest [] (new_state officer digest) []
unfolding new_state
new_leads officer digest = record {
  accepted = λ first next others d is f. absurd (omega (
    arith,
    ap (λ (l : List Entry). length l) is,
    length-append first (next ∷ others),
  ));
  whole = new_desk officer digest;
  folds = refl;
  each = λ d f. ap state_of f;
  counted = least;
}

new_sound : (officer : Name) (digest : List ℕ) → IsSoundRun (new_state officer digest).run
unfolding new_state
new_sound officer digest = tt

pub histories_lead : Laws → HistoriesCanBeReopened
histories_lead laws officer digest calls right own few =
    calls_lead officer digest laws [] (new_state officer digest) [] calls
    (new_leads officer digest) (new_sound officer digest) right own (omega (arith, few))

-- ---- a desk that was reopened

twice : (phase : Phase)
    → run.restarted_phase (run.restarted_phase phase) ≡ run.restarted_phase phase
twice Idle = refl
twice (Cutting planned) = refl
twice (Checking c) = refl
twice (Finished f) = refl

-- rows that are reopened lead to the same state again
stored_twice : (s : State) (trail : List Noted)
    → stored_state (stored_state s trail) trail ≡ stored_state s trail
stored_twice s trail =
    ap (λ (p : Phase). (let x : State = record (stored_state s trail) {
      run = record { number = s.run.number; phase = p };
    } in x)) (twice s.run.phase)

-- the state after a restart
abbrev restarted_state : State → State
restarted_state s =
    record s { policy = rows.end_sessions s.policy; run = run.restarted s.run }

restart_state : (d : Desk)
    → state_of (answering d event.Restart true).desk ≡ restarted_state (state_of d)
unfolding event_outcome
restart_state d = again_state d event.Restart

-- all sessions that were open are ended
ended_is : (s : State) (trail : List Noted) (closing : List ℕ)
    → ended s.policy closing ≡ rows.end_sessions s.policy
    → stored_state (let x : State = record s { policy = ended s.policy closing } in x) trail
    ≡ stored_state (restarted_state s) trail
ended_is s trail closing is =
    ap (λ (p : Policy). (let x : State = record (stored_state s trail) { policy = p } in x)) is
    ∙ ap (λ (p : Phase). (let x : State = record (stored_state s trail) {
      policy = rows.end_sessions s.policy;
      run = record { number = s.run.number; phase = p };
    } in x)) (sym (twice s.run.phase))

pub stores_lead : Laws → StoresCanBeReopenedAgain
stores_lead laws officer digest found s trail whole closing known calls h f open_ones same_rows
    right own few =
    lead_rows officer digest _ _ (state_after again calls) _ all_rows
    (calls_lead officer digest laws (found ++ gone) again trail calls leads sound right own
    (omega (arith, few, counted)))
  where
    w : State
    w = state_of whole

    again : State
    again = state_of (answering whole event.Restart true).desk

    gone : List Entry
    gone = gone_rows (length found + 1) closing

    counted : length (found ++ gone) ≡ length known
    counted = ap (λ (l : List Entry). length l) same_rows ∙ length_rows 1 known

    all_rows : (found ++ gone) ++ rows_from (length (found ++ gone) + 1) (changes_of again calls)
        ≡ rows_from 1 (known ++ changes_of again calls)
    all_rows =
        ap (λ (l : List Entry). l ++ rows_from (length (found ++ gone) + 1)
        (changes_of again calls)) same_rows
        ∙ ap (λ n. rows_from 1 known ++ rows_from n (changes_of again calls))
        (omega (arith, counted))
        ∙ sym (rows_append 1 known (changes_of again calls))

    same : stored_state s trail ≡ stored_state w trail
    same = sym (stored_twice s trail)
        ∙ sym (ap (λ (x : State). stored_state x trail) (h.each whole f))

    have : All (λ c. is_some (session_of w.policy c) ≡ true) closing
    have = All-weaker (Contains closing) (λ c. is_some (session_of w.policy c) ≡ true)
        (λ c there. (open_ones.each c).0 there) closing (All-contains_itself closing)

    ends : ended w.policy closing ≡ rows.end_sessions w.policy
    ends = all_ended w.policy closing (λ key is. (open_ones.each key).1 is)

    leads : LeadTo officer digest (found ++ gone) again trail
    leads =
        lead_as officer digest (found ++ gone) _ again trail trail
        (ended_is w trail closing ends
        ∙ sym (ap (λ (x : State). stored_state x trail) (restart_state whole)))
        (ends_lead officer digest found w trail closing
        (lead_as officer digest found s w trail trail same h)
        (AllPairs-from_increasing closing open_ones.ascending) have)

    sound : IsSoundRun again.run
    sound = subst (λ (x : State). IsSoundRun x.run) (sym (restart_state whole))
        (sound_restarted w.run.number w.run.phase)

-- ---- bad rows

pub never_bad : (db : sql.State) → RowsAreNeverBad db
never_bad db officer digest entries s trail place h has are within (CantGoOn.stops stop) =
    absurd (never (stop.stops entries has are))
  where
    first : Folds (new_desk officer digest) stop.taken stop.before
    first = folds (new_desk officer digest) stop.taken stop.before stop.went

    never : StopsIn Restores stop.before stop.taken place entries → ⊥
    never in_rows = by in_rows.refused
      where
        by : Refuses Restores stop.before in_rows.next ⊎ (MAX_ROWS < place) → ⊥
        by (inl refused) =
            let next = h.accepted stop.taken in_rows.next in_rows.rest stop.before in_rows.is first
            in refused next.0 next.1
        by (inr past) =
            omega (
              arith,
              past,
              within,
              stop.counted,
              ap (λ (l : List Entry). length l) in_rows.is,
              length-append stop.taken (in_rows.next ∷ in_rows.rest),
            )
never_bad db officer digest entries s trail place h has are within
    (CantGoOn.full found whole closing finds leads open_ones full at) = at

-- ---- the result of reopening

-- a table has one list of rows
one_list : (db : Trees) (a b : List Entry) → HasRows db a → HasRows db b → a ≡ b
one_list db a b p q =
    let same : length a ≡ length b =
    sym (length-map a shown) ∙ length_permutation (map columns (db 0)) (map shown a) p.rows
    ∙ sym (length_permutation (map columns (db 0)) (map shown b) q.rows) ∙ length-map b shown in
    sym (at_their_places db a p) ∙ ap (entries_from db 1) same ∙ at_their_places db b q

not_blank : (db : sql.State) → db.now.schema ≡ no_schema → db.now.schema ≡ changes_schema → ⊥
not_blank db none is =
    let e : [] ≡ changes ∷ [] = ap (λ (schema : Schema). schema.tables) (sym none ∙ is) in cc

found_all : (db : sql.State) (found entries : List Entry) → Finds db found
    → db.now.schema ≡ changes_schema → HasRows db.now.trees entries → found ≡ entries
found_all db _ entries (Finds.there found rows) is has =
    one_list db.now.trees found entries rows has
found_all db _ entries (Finds.blank none) is has = absurd (not_blank db none is)

restarted_is : (s : State) (trail : List Noted)
    → restarted_state (stored_state s trail) ≡ reopened_state s trail
restarted_is s trail =
    ap (λ (p : Phase). (let x : State = record (reopened_state s trail) {
      run = record { number = s.run.number; phase = p };
    } in x)) (twice s.run.phase)

pub have_the_state : (before later : sql.State) → ReopenedDesksHaveTheState before later
have_the_state before later officer digest entries s trail d count h is has r =
    ap state_of r.restarted ∙ restart_state r.whole
    ∙ ap restarted_state (h.each r.whole
    (subst (λ l. Folds (new_desk officer digest) l r.whole)
    (found_all before r.found entries r.finds is has) r.folds))
    ∙ restarted_is s trail
