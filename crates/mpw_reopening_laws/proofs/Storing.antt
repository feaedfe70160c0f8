-- A call leaves the state that rows lead to unchanged, or is the step of a change that was stored.
use Rattle.std.proofs.Common.{◌≡◌, ◌∙◌, ℕ, Bool, true, false, List, refl, sym, ap}
use Rattle.std.proofs.lemmas.Bool.{true≢false}
use Rattle.mpw_rbac.specs.Policy.{Policy}
use Rattle.mpw_rbac.proofs.RowLemmas.{end-absent}
use Rattle.mpw_job.specs.Jobs.{CutWindows, FoundMarkers}
use Rattle.mpw_run.specs.declared.phase.Phase.{Phase}
use Rattle.mpw_run.specs.declared.phase.Phase.TheVariants.{Cutting, Checking}
use Rattle.mpw_run.specs.Laws.{finishes}
use Rattle.mpw_run.specs.Step as run
use Rattle.mpw_trail.specs.declared.entry.Entry.{Entry as Noted}
use Rattle.mpw_events.specs.Step.{State, Outcome, after, event_outcome, of_run, outcome_of, step}
use Rattle.mpw_events.specs.declared.event.Event.{Event}
use Rattle.mpw_events.specs.declared.event.Event.TheVariants as event
use Rattle.mpw_run_laws.proofs.Moves.{Takes, Cuts, Answered, takes, cuts, answers}
use Rattle.mpw_run_laws.proofs.Calls.{Settled, settled}
use Rattle.mpw_reopening_laws.specs.Leading.{IsStorable, stored_state}
use Rattle.mpw_reopening_laws.proofs.StoredOutcomes.{Same, request_same}
use Rattle.mpw_reopening_laws.proofs.Working.{unfinished_state}

-- ---- what changes nothing that is stored

-- an outcome that is no change leaves the state that rows lead to unchanged
abbrev IsQuiet : State → List Noted → Outcome → Type 0
IsQuiet s trail o = o.changes ≡ false → stored_state o.state trail ≡ stored_state s trail

request_quiet : (s : State) (trail : List Noted) (o other : Outcome) → Same s trail o other
    → IsQuiet s trail o
request_quiet s trail o other (Same.stays none same) is = same
request_quiet s trail o other (Same.moves all same) is = absurd (true≢false (sym all ∙ is))

run_quiet : (s : State) (trail : List Noted) (o : run.Outcome)
    → (finishes o.reply ≡ false → run.restarted o.run ≡ run.restarted s.run)
    → IsQuiet s trail (of_run s o)
run_quiet s trail o same none =
    ap (λ (x : State). stored_state x trail) (unfinished_state s o none)
    ∙ ap (λ (r : run.Run). (let x : State = record (stored_state s trail) { run = r } in x))
    (same none)

-- what a run checks, by its phase
again : (r : run.Run) (phase : Phase) → r.phase ≡ phase
    → (let q : run.Run = record { number = r.number; phase = run.restarted_phase phase } in q)
    ≡ run.restarted r
again r phase is =
    sym (ap (λ (p : Phase). (let q : run.Run = record {
      number = r.number;
      phase = run.restarted_phase p;
    } in q)) is)

take_same : (r : run.Run) (o : run.Outcome) → Takes r o → run.restarted o.run ≡ run.restarted r
take_same r o (Takes.stays same none) = ap run.restarted same
take_same r o (Takes.raises c k x phase at same none) =
    ap run.restarted same ∙ again r (Checking c) phase

cut_same : (r : run.Run) (a : CutWindows) (o : run.Outcome) → Cuts r a o
    → run.restarted o.run ≡ run.restarted r
cut_same r a o (Cuts.stays same none) = ap run.restarted same
cut_same r a o (Cuts.begins p phase own same none) =
    ap run.restarted same ∙ again r (Cutting p) phase

tile_same : (r : run.Run) (f : FoundMarkers) (o : run.Outcome) → Answered r f o
    → finishes o.reply ≡ false → run.restarted o.run ≡ run.restarted r
tile_same r f o (Answered.stays same k none) not = ap run.restarted same
tile_same r f o (Answered.more c x asked told same other) not =
    ap run.restarted same ∙ again r (Checking c) asked.phase
tile_same r f o (Answered.last c x asked told same all) not =
    absurd (true≢false (sym (ap finishes told) ∙ not))

gone_quiet : (s : State) (trail : List Noted) (connection : ℕ)
    → IsQuiet s trail (event_outcome s (event.Gone connection))
unfolding event_outcome
gone_quiet s trail connection none =
    ap (λ (p : Policy). (let x : State = record (stored_state s trail) { policy = p } in x))
    (end-absent s.policy connection none)

quiet : (s : State) (trail : List Noted) (e : Event) → IsStorable e
    → IsQuiet s trail (event_outcome s e)
unfolding event_outcome
quiet s trail (event.Ask connection request) right =
    request_quiet s trail (outcome_of s connection request) _
    (request_same s trail connection request)
quiet s trail (event.Gone connection) right = gone_quiet s trail connection
quiet s trail (event.Take worker) right =
    run_quiet s trail (run.taken s.run) (λ none. take_same s.run _ (takes s.run))
quiet s trail (event.Cut a) right =
    run_quiet s trail (run.cut_answered s.run a) (λ none. cut_same s.run a _ (cuts s.run a))
quiet s trail (event.Tile f) right =
    run_quiet s trail (run.tile_answered s.run f)
    (λ none. tile_same s.run f _ (answers s.run f) none)
quiet s trail event.Restart right = absurd right

-- ---- a call

pub data Stores (s : State) (trail : List Noted) (e : Event) (kept : Bool) : Type 0 where
  nothing : (step s e kept).changes ≡ false
      → stored_state (after s e kept) trail ≡ stored_state s trail → Stores s trail e kept
  its_change : step s e kept ≡ event_outcome s e → (event_outcome s e).changes ≡ true
      → Stores s trail e kept

pub stores : (s : State) (trail : List Noted) (e : Event) (kept : Bool) → IsStorable e
    → Stores s trail e kept
stores s trail e kept right =
    by (event_outcome s e).changes refl (settled s e kept (event_outcome s e) refl)
  where
    by : (b : Bool) → (event_outcome s e).changes ≡ b
        → Settled s e kept (event_outcome s e) → Stores s trail e kept
    by true is (Settled.as_wanted same) = Stores.its_change same is
    by false is (Settled.as_wanted same) =
        Stores.nothing (ap (λ (o : Outcome). o.changes) same ∙ is)
        (ap (λ (o : Outcome). stored_state o.state trail) same ∙ quiet s trail e right is)
    by b is (Settled.closes same changes) =
        Stores.nothing (ap (λ (o : Outcome). o.changes) same)
        (ap (λ (o : Outcome). stored_state o.state trail) same)
