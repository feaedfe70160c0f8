-- A run that is cutting becomes finished by the windows of its snapshot and the markers of its tiles, and not before the last.
use Rattle.std.proofs.Common.{◌≡◌, ◌∙◌, ◌<◌, ◌≤◌, ℕ, zero, suc, ◌+◌, Bool, true, false, List, [], ◌∷◌, ◌++◌, map, drop, get_or, length, Option, Some, None, refl, sym, ap, arith, inl, inr}
use Rattle.std.specs.Prelude.{◌==◌, slice_get, slice_set, if◌then◌else◌}
use Rattle.std.specs.List.{range_with_len}
use Rattle.std.proofs.lemmas.Bool.{true≢false, cases_eq, cases_lt, eq-eqb, eqb-true}
use Rattle.std.proofs.lemmas.List.{length-replicate}
use Rattle.std.proofs.lemmas.Option.{none-some, same_Some, slice_get-get_or}
use Rattle.mpw_events.specs.History.{Desk, answering, state_of}
use Rattle.mpw_events.specs.Restoring.{job_cut, job_cut_in}
use Rattle.mpw_events.specs.Step.{State, Outcome, of_run, event_outcome}
use Rattle.mpw_events.specs.declared.event.Event.{Event}
use Rattle.mpw_events.specs.declared.event.Event.TheVariants as event
use Rattle.mpw_events.specs.declared.keeper.Change.TheVariants as change
use Rattle.mpw_events.specs.declared.keeper.KeptChange.{KeptChange}
use Rattle.mpw_job.specs.Answers.{TileJob}
use Rattle.mpw_job.specs.Jobs.{CutWindows, FoundMarkers}
use Rattle.mpw_job.specs.Laws.{tile_job_of}
use Rattle.mpw_job.specs.declared.job.CutJob.{CutJob}
use Rattle.mpw_run.specs.declared.phase.Phase.{Phase}
use Rattle.mpw_run.specs.declared.phase.Phase.TheVariants.{Idle, Cutting, Checking, Finished}
use Rattle.mpw_run.specs.declared.phase.RunReply.TheVariants as told
use Rattle.mpw_run.specs.Run.{Planned, Checks, Tile, answers_of, answered as answered_of}
use Rattle.mpw_run.specs.Stitching.{stitched}
use Rattle.mpw_run.specs.Step as run
use Rattle.mpw_run.proofs.Exactness.{exact}
use Rattle.mpw_run.proofs.Opened.{some_tile}
use Rattle.mpw_run.proofs.TileLists.{new_answered, new_get, new_tile, other_tile, one_answered}
use Rattle.mpw_tiles.specs.Plan.{tiles}
use Rattle.mpw_tiles.specs.Snapshots.{plan_for}
use Rattle.mpw_tiles.specs.declared.listing.Rectangle.{Rectangle}
use Rattle.mpw_store_restoring.specs.Restoring.{AreFound, tile_jobs_by, changes_by}
use Rattle.mpw_store_restoring.proofs.Again.{again_state, changed, unchanged}
use Rattle.mpw_store_restoring.proofs.Planned.{HasPlan, has_plan}

abbrev checks_of : Planned → List (List Rectangle) → List Tile → Checks
checks_of planned windows xs = record { planned = planned; windows = windows; tiles = xs }

-- a run of that number whose first tiles are answered, up to one
record IsAt (s : State) (planned : Planned) (windows : List (List Rectangle)) (number k : ℕ) :
    Type 0 where
  number_is : s.run.number ≡ number
  xs : List Tile
  phase : s.run.phase ≡ Checking (checks_of planned windows xs)
  done : answered_of xs ≡ k
  left : k < tiles planned.plan
  unanswered : (j : ℕ) → k ≤ j → j < tiles planned.plan → (x : Tile) × (slice_get xs j ≡ Some x)
      × (x.answer ≡ None)

wanted_cut : (s : State) (a : CutWindows)
    → event_outcome s (event.Cut a) ≡ of_run s (run.cut_answered s.run a)
unfolding event_outcome
wanted_cut s a = refl

wanted_tile : (s : State) (a : FoundMarkers)
    → event_outcome s (event.Tile a) ≡ of_run s (run.tile_answered s.run a)
unfolding event_outcome
wanted_tile s a = refl

-- the run after an event of the run
run_behind : (d : Desk) (e : Event) (o : run.Outcome)
    → event_outcome (state_of d) e ≡ of_run (state_of d) o
    → (state_of (answering d e true).desk).run ≡ o.run
run_behind d e o is =
    ap (λ (s : State). s.run) (again_state d e) ∙ ap (λ (x : Outcome). x.state.run) is

-- ---- the windows

abbrev cut_job : run.Run → Planned → CutJob
cut_job r planned = let j : CutJob = record { run = r.number; snapshot = planned.snapshot } in j

cut_is : (r : run.Run) (planned : Planned) (a : CutWindows) → r.phase ≡ Cutting planned
    → a.job ≡ cut_job r planned → run.cut_answered r a ≡ run.begun r planned a
cut_is r planned a phase job =
    ap (λ (b : Bool). if b then run.cut_in r a r.phase else run.left_as told.OldRun r)
    (eq-eqb r.number a.job.run (sym (ap (λ (j : CutJob). j.run) job)))
    ∙ ap (λ (p : Phase). run.cut_in r a p) phase
    ∙ ap (λ (b : Bool). if b then run.begun r planned a else run.left_as told.Stranger r)
    ((exact.snapshots _ _).1 (ap (λ (j : CutJob). j.snapshot) job))

cut_wants : (d : Desk) (planned : Planned) (a : CutWindows)
    → (state_of d).run.phase ≡ Cutting planned → a.job ≡ cut_job (state_of d).run planned
    → event_outcome (state_of d) (event.Cut a)
    ≡ of_run (state_of d) (run.begun (state_of d).run planned a)
cut_wants d planned a phase job =
    wanted_cut (state_of d) a
    ∙ ap (of_run (state_of d)) (cut_is (state_of d).run planned a phase job)

new_at : (n j : ℕ) → j < n → slice_get (run.new_tiles n) j
    ≡ Some (get_or (run.new_tiles n) j new_tile)
new_at n j within = slice_get-get_or (run.new_tiles n) j new_tile
    (omega (arith, within, length-replicate n new_tile))

cut_at : (d : Desk) (planned : Planned) (a : CutWindows)
    → (state_of d).run.phase ≡ Cutting planned → a.job ≡ cut_job (state_of d).run planned
    → IsAt (state_of (answering d (event.Cut a) true).desk) planned a.windows
    (state_of d).run.number 0
cut_at d planned a phase job =
    let n = tiles planned.plan in
    let is = run_behind d (event.Cut a) (run.begun (state_of d).run planned a)
    (cut_wants d planned a phase job) in
    record {
      number_is = ap (λ (x : run.Run). x.number) is;
      xs = run.new_tiles n;
      phase = ap (λ (x : run.Run). x.phase) is;
      done = new_answered n;
      left = omega (arith, some_tile planned.plan);
      unanswered = λ j from within. (
        get_or (run.new_tiles n) j new_tile,
        new_at n j within,
        new_get n j _ (new_at n j within),
      );
    }

-- ---- a tile

tile_is : (r : run.Run) (c : Checks) (a : FoundMarkers) (x : Tile) (number k : ℕ)
    → r.phase ≡ Checking c → r.number ≡ number
    → a.job ≡ tile_job_of c.planned.snapshot c.planned.plan c.windows number k
    → slice_get c.tiles k ≡ Some x → x.answer ≡ None
    → run.tile_answered r a ≡ run.kept r c
    (slice_set c.tiles a.job.tile (run.answered_by a.markers x))
tile_is r c a x number k phase is job at none =
    let here : a.job.tile ≡ k = ap (λ (t : TileJob). t.tile) job in
    let own : a.job ≡ run.job_of_tile r.number c a.job.tile =
    job ∙ ap (λ m. tile_job_of c.planned.snapshot c.planned.plan c.windows m k) (sym is)
    ∙ ap (λ m. tile_job_of c.planned.snapshot c.planned.plan c.windows r.number m) (sym here) in
    ap (λ (b : Bool). if b then run.tile_in r a r.phase else run.left_as told.OldRun r)
    (eq-eqb r.number a.job.run (is ∙ sym (ap (λ (t : TileJob). t.run) job)))
    ∙ ap (λ (p : Phase). run.tile_in r a p) phase
    ∙ ap (λ (o : Option Tile). run.tile_checked r c a o) (ap (slice_get c.tiles) here ∙ at)
    ∙ ap (λ m. run.tile_compared r c a x m) none
    ∙ ap (λ (b : Bool). if b then run.kept r c
    (slice_set c.tiles a.job.tile (run.answered_by a.markers x))
    else run.left_as told.Stranger r) ((exact.tile_jobs _ _).1 own)

abbrev finished_change : ℕ → KeptChange
finished_change number =
    let c : KeptChange = record { connection = 0; change = change.Finished number } in c

-- the last tile finishes the run, and one before it leaves the run at the next
data Goes (d : Desk) (planned : Planned) (windows : List (List Rectangle)) (number k : ℕ)
    (a : FoundMarkers) : Type 0 where
  last : k + 1 ≡ tiles planned.plan
      → (answering d (event.Tile a) true).changes ≡ finished_change number ∷ []
      → Goes d planned windows number k a
  next : IsAt (state_of (answering d (event.Tile a) true).desk) planned windows number (k + 1)
      → (answering d (event.Tile a) true).changes ≡ [] → Goes d planned windows number k a

tile_goes : (d : Desk) (planned : Planned) (windows : List (List Rectangle)) (number k : ℕ)
    (a : FoundMarkers) → IsAt (state_of d) planned windows number k
    → a.job ≡ tile_job_of planned.snapshot planned.plan windows number k
    → Goes d planned windows number k a
tile_goes d planned windows number k a is job =
    by (answered_of now == tiles planned.plan) refl
  where
    s : State
    s = state_of d

    c : Checks
    c = checks_of planned windows is.xs

    u : (x : Tile) × (slice_get is.xs k ≡ Some x) × (x.answer ≡ None)
    u = is.unanswered k (omega arith) is.left

    here : a.job.tile ≡ k
    here = ap (λ (t : TileJob). t.tile) job

    now : List Tile
    now = slice_set is.xs a.job.tile (run.answered_by a.markers u.0)

    more : answered_of now ≡ k + 1
    more = one_answered is.xs a.job.tile u.0 a.markers (ap (slice_get is.xs) here ∙ u.1) u.2
        ∙ ap (λ m. m + 1) is.done

    wants : (o : run.Outcome) → run.kept s.run c now ≡ o
        → event_outcome s (event.Tile a) ≡ of_run s o
    wants o e = wanted_tile s a ∙ ap (of_run s)
        (tile_is s.run c a u.0 number k is.phase is.number_is job u.1 u.2 ∙ e)

    kept_as : Bool → run.Outcome
    kept_as b = if b
        then record {
          reply = told.Finished;
          run = record {
            number = s.run.number;
            phase = Finished (record { planned = planned; book = stitched (answers_of now) });
          };
        }
        else record {
          reply = told.Kept;
          run = record {
            number = s.run.number;
            phase = Checking (checks_of planned windows now);
          };
        }

    behind_last : (answered_of now == tiles planned.plan) ≡ true → k + 1 ≡ tiles planned.plan
    behind_last e = elim (cases_eq (answered_of now) (tiles planned.plan)) [
      | inl same ↦ sym more ∙ same
      | inr other ↦ absurd (other (eqb-true (answered_of now) (tiles planned.plan) e))
    ]

    left_over : (answered_of now == tiles planned.plan) ≡ false → k + 1 < tiles planned.plan
    left_over f = elim (cases_lt (k + 1) (tiles planned.plan)) [
      | inl l ↦ l
      | inr g ↦
          absurd (true≢false (sym (eq-eqb (answered_of now) (tiles planned.plan)
          (omega (arith, more, g, is.left))) ∙ f))
    ]

    by : (b : Bool) → (answered_of now == tiles planned.plan) ≡ b
        → Goes d planned windows number k a
    by true e = Goes.last (behind_last e) (changed d (event.Tile a) (finished_change number)
        (ap (λ m. Some (finished_change m)) (ap (λ (t : TileJob). t.run) job))
        (ap (λ (o : Outcome). o.changes) (wants (kept_as true) (ap kept_as e))))
    by false e =
        let now_is = run_behind d (event.Tile a) (kept_as false)
        (wants (kept_as false) (ap kept_as e)) in
        Goes.next (record {
          number_is = ap (λ (x : run.Run). x.number) now_is ∙ is.number_is;
          xs = now;
          phase = ap (λ (x : run.Run). x.phase) now_is;
          done = more;
          left = left_over e;
          unanswered = λ j from within.
              let old = is.unanswered j (omega (arith, from)) within in (
                old.0,
                other_tile is.xs a.job.tile j _ (λ same. omega (arith, from, same, here)) ∙ old.1,
                old.2,
              );
        }) (unchanged d (event.Tile a)
        (ap (λ (o : Outcome). o.changes) (wants (kept_as false) (ap kept_as e))))

-- ---- all tiles

abbrev job_in : FoundMarkers → TileJob
job_in f = f.job

tiles_finish : (planned : Planned) (windows : List (List Rectangle)) (number m k : ℕ) (d : Desk)
    (found : List FoundMarkers) → k + m ≡ tiles planned.plan
    → IsAt (state_of d) planned windows number k
    → map job_in found ≡ map (tile_job_of planned.snapshot planned.plan windows number)
    (range_with_len k m)
    → changes_by d (map event.Tile found) ≡ finished_change number ∷ []
unfolding changes_by
tiles_finish planned windows number zero k d found sum is jobs =
    absurd (omega (arith, sum, is.left))
tiles_finish planned windows number (suc m) k d [] sum is jobs =
    absurd (omega (arith, ap (λ (l : List TileJob). length l) jobs))
tiles_finish planned windows number (suc m) k d (f ∷ found) sum is jobs =
    by m found sum (ap (λ (l : List TileJob). drop 1 l) jobs)
    (tile_goes d planned windows number k f is (ap (λ (l : List TileJob). get_or l 0 f.job) jobs))
    (λ far. tiles_finish planned windows number m (k + 1) (answering d (event.Tile f) true).desk
    found (omega (arith, sum)) far (ap (λ (l : List TileJob). drop 1 l) jobs))
  where
    by : (m : ℕ) (rest : List FoundMarkers) → k + suc m ≡ tiles planned.plan
        → map job_in rest ≡ map (tile_job_of planned.snapshot planned.plan windows number)
        (range_with_len (k + 1) m)
        → Goes d planned windows number k f
        → (IsAt (state_of (answering d (event.Tile f) true).desk) planned windows number (k + 1)
        → changes_by (answering d (event.Tile f) true).desk (map event.Tile rest)
        ≡ finished_change number ∷ [])
        → (answering d (event.Tile f) true).changes
        ++ changes_by (answering d (event.Tile f) true).desk (map event.Tile rest)
        ≡ finished_change number ∷ []
    by zero [] sum jobs (Goes.last end changes) far =
        ap (λ (l : List KeptChange). l ++ []) changes
    by zero (g ∷ rest) sum jobs (Goes.last end changes) far =
        absurd (omega (arith, ap (λ (l : List TileJob). length l) jobs))
    by (suc m) rest sum jobs (Goes.last end changes) far = absurd (omega (arith, sum, end))
    by m rest sum jobs (Goes.next at none) far =
        ap (λ (l : List KeptChange). l
        ++ changes_by (answering d (event.Tile f) true).desk (map event.Tile rest)) none ∙ far at

-- ---- the whole work

cutting : (r : run.Run) (phase : Phase) (job : CutJob) → r.phase ≡ phase
    → job_cut_in r phase ≡ Some job → HasPlan phase → (planned : Planned)
    × (r.phase ≡ Cutting planned) × (job ≡ cut_job r planned)
    × (plan_for planned.snapshot ≡ Some planned.plan)
cutting r Idle job is e p = absurd (none-some _ e)
cutting r (Cutting planned) job is e p = (planned, is, sym (same_Some _ _ e), p)
cutting r (Checking c) job is e p = absurd (none-some _ e)
cutting r (Finished f) job is e p = absurd (none-some _ e)

-- the windows of the run that is cutting and the markers of its tiles finish it, which is all that they change
pub work_finishes : (d : Desk) (a : CutWindows) (found : List FoundMarkers)
    → job_cut (state_of d).run ≡ Some a.job → AreFound a found
    → changes_by d (event.Cut a ∷ map event.Tile found) ≡ finished_change a.job.run ∷ []
unfolding changes_by
work_finishes d a found job are =
    let c = cutting (state_of d).run (state_of d).run.phase a.job refl job (has_plan d) in
    let planned = c.0 in
    let quiet : (answering d (event.Cut a) true).changes ≡ [] =
    unchanged d (event.Cut a)
    (ap (λ (o : Outcome). o.changes) (cut_wants d planned a c.1 c.2)) in
    let number : (state_of d).run.number ≡ a.job.run = sym (ap (λ (j : CutJob). j.run) c.2) in
    ap (λ (l : List KeptChange). l
    ++ changes_by (answering d (event.Cut a) true).desk (map event.Tile found)) quiet
    ∙ tiles_finish planned a.windows (state_of d).run.number (tiles planned.plan) 0
    (answering d (event.Cut a) true).desk found (omega arith) (cut_at d planned a c.1 c.2)
    (are.jobs ∙ ap (tile_jobs_by a) (ap (λ (j : CutJob). plan_for j.snapshot) c.2 ∙ c.3)
    ∙ ap (λ (j : CutJob). map (tile_job_of j.snapshot planned.plan a.windows j.run)
    (range_with_len 0 (tiles planned.plan))) c.2)
    ∙ ap (λ m. finished_change m ∷ []) number
