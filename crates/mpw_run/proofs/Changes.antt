-- What changes preserve.
use Rattle.std.proofs.Common.{◌≡◌, ℕ, ◌+◌, ◌^◌, ◌<◌, ◌≤◌, Bool, true, false, List, Option, Some, None, refl, sym, subst, ap, ◌∙◌, arith}
use Rattle.std.specs.Prelude.{◌==◌, slice_get, slice_set, option_map, if◌then◌else◌}
use Rattle.std.proofs.lemmas.Bool.{eqb-true, eq-eqb}
use Rattle.std.proofs.lemmas.Option.{slice_get_within}
use Rattle.mpw_tiles.specs.Plan.{tiles}
use Rattle.mpw_tiles.specs.Snapshots.{Snapshot, StandFor}
use Rattle.mpw_markers.specs.declared.marker.Marker.{Marker}
use Rattle.mpw_job.specs.Answers.{TileJob, Answers}
use Rattle.mpw_job.specs.Jobs.{CutWindows}
use Rattle.mpw_job.specs.Laws.{AnswersMakeTheLayout}
use Rattle.mpw_job.specs.declared.job.Job.TheVariants as job
use Rattle.mpw_run.specs.declared.phase.Phase.{Phase}
use Rattle.mpw_run.specs.declared.phase.Phase.TheVariants.{Cutting, Checking, Finished}
use Rattle.mpw_run.specs.declared.phase.RunReply.TheVariants as reply
use Rattle.mpw_run.specs.declared.prepare.Change.TheVariants as change
use Rattle.mpw_run.specs.declared.prepare.Prepared.{Prepared}
use Rattle.mpw_run.specs.Run.{Planned, Tile, Checks, answers_of, answered, IsPlanned, IsChecks}
use Rattle.mpw_run.specs.Step.{Run, Offer, Outcome, IsPhase, IsRun, TakenAtMost, job_of_tile, with_tiles, raised, answered_by, new_tiles, handed, begun, kept, next_from}
use Rattle.mpw_run.specs.Prepared.{set_tile, next_phase, applied, MayTake, IsPrepared}
use Rattle.mpw_run.specs.Stitching.{stitched}
use Rattle.mpw_run.specs.Laws.{StitchedComputes}
use Rattle.mpw_run.proofs.TileLists.{one_answered}
use Rattle.mpw_run.proofs.Next.{next_is, offer_of_number}
use Rattle.mpw_run.proofs.Opened.{raise_keeps, answer_keeps, begins, finishes}

-- ---- what is prepared

-- what holds of a run, by its phase
pub phase_of : (run : Run) (phase : Phase) → run.phase ≡ phase → IsRun run
    → IsPhase run.number phase
phase_of run phase e h = subst (IsPhase run.number) e h

-- a tile is handed out
pub take_prepared : (run : Run) (c : Checks) (o : Offer) → run.phase ≡ Checking c
    → run.number < 2 ^ 32 → TakenAtMost (2 ^ 63) run.phase → IsRun run
    → next_from 0 c.tiles ≡ Some o
    → IsPrepared (let p : Prepared = record {
      reply = reply.Taken
          (job.Tile (job_of_tile run.number c o.number));
      change = change.Take o.number;
    } in p) run
    (handed run c (Some o))
take_prepared run c o e few most h next =
    record {
      reply = refl;
      leaves = leaves;
      fits = record { left = subst IsRun (sym leaves) now; number = few; taken = countable };
    }
  where
    countable : MayTake o.number run.phase
    countable = subst (MayTake o.number) (sym e)
        (λ x at. let few = subst (TakenAtMost (2 ^ 63)) e most o.number x at in omega (arith, few))

    true_of : IsPlanned c.planned × IsChecks run.number c
    true_of = phase_of run (Checking c) e h

    at : slice_get c.tiles o.number ≡ Some o.tile
    at = let i = next_is 0 c.tiles o next in
        ap (slice_get c.tiles) (let n = i.number in omega (arith, n)) ∙ i.at

    leaves : applied (change.Take o.number) run ≡ (handed run c (Some o)).run
    leaves =
        ap (λ (p : Phase). let r : Run = record {
          number = run.number;
          phase = next_phase (change.Take o.number) p;
        } in r) e
        ∙ ap (λ (t : Option Tile). let r :
        Run = record {
          number = run.number;
          phase = Checking (with_tiles c (set_tile raised o.number c.tiles t));
        } in r) at

    now : IsRun (handed run c (Some o)).run
    now = (true_of.0, raise_keeps run.number c o.number o.tile true_of.1 at)

-- the tile that is offered is one of the plan's
pub offered_within : (run : Run) (c : Checks) (tile : ℕ) → run.phase ≡ Checking c → IsRun run
    → Some tile ≡ option_map (λ (o : Offer). o.number) (next_from 0 c.tiles)
    → tile < tiles c.planned.plan
offered_within run c tile e h o =
    let q = offer_of_number (next_from 0 c.tiles) tile o in
    let i = next_is 0 c.tiles q.0 q.1 in
    let n = i.number in
    let count = (phase_of run (Checking c) e h).1.count in
    omega (arith, n, slice_get_within c.tiles i.place q.0.tile i.at, q.2, count)

-- a tile is handed out, by its number
pub take_is : (run : Run) (c : Checks) (tile : ℕ) (tile_job : TileJob) → run.phase ≡ Checking c
    → run.number < 2 ^ 32 → TakenAtMost (2 ^ 63) run.phase → IsRun run → Some tile ≡ option_map (λ (o : Offer). o.number)
    (next_from 0 c.tiles)
    → tile_job ≡ job_of_tile run.number c tile
    → IsPrepared (let p : Prepared = record {
      reply = reply.Taken (job.Tile tile_job);
      change = change.Take tile;
    } in p) run (handed run c (next_from 0 c.tiles))
take_is run c tile tile_job e few most h o same =
    let q = offer_of_number (next_from 0 c.tiles) tile o in
    subst (IsPrepared (made tile_job tile) run) (sym (ap (handed run c) q.1))
    (subst (λ (t : TileJob). IsPrepared (made t tile) run (handed run c (Some q.0))) (sym same)
    (subst (λ (k : ℕ). IsPrepared (made (job_of_tile run.number c k) k) run (handed run c (Some q.0)))
    q.2 (take_prepared run c q.0 e few most h q.1)))
  where
    made : TileJob → ℕ → Prepared
    made t k = record { reply = reply.Taken (job.Tile t); change = change.Take k }

-- the check begins
pub cut_prepared : (run : Run) (planned : Planned) (answer : CutWindows)
    → run.phase ≡ Cutting planned → run.number < 2 ^ 32 → IsRun run
    → answer.job.snapshot ≡ planned.snapshot → StandFor answer.job.snapshot answer.windows
    → IsPrepared (let p : Prepared = record {
      reply = reply.Kept;
      change = change.Check answer.windows (new_tiles (tiles planned.plan));
    } in p) run
    (begun run planned answer)
cut_prepared run planned answer e few h same windows =
    record {
      reply = refl;
      leaves = leaves;
      fits = record { left = subst IsRun (sym leaves) now; number = few; taken = tt };
    }
  where
    leaves : applied (change.Check answer.windows (new_tiles (tiles planned.plan))) run
        ≡ (begun run planned answer).run
    leaves = ap (λ (p : Phase). let r :
        Run = record {
          number = run.number;
          phase = next_phase (change.Check answer.windows (new_tiles (tiles planned.plan))) p;
        } in r)
        e

    now : IsRun (begun run planned answer).run
    now = (
      phase_of run (Cutting planned) e h,
      begins run.number planned answer.windows
          (subst (λ (s : Snapshot). StandFor s answer.windows) same windows),
    )

-- the tests of a count that goes up by one to the number of tiles
pub last : (run : ℕ) (c : Checks) (k : ℕ) (x : Tile) (m : List Marker) → IsChecks run c
    → slice_get c.tiles k ≡ Some x → x.answer ≡ None → tiles c.planned.plan ≤ answered c.tiles + 1
    → answered (slice_set c.tiles k (answered_by m x)) ≡ tiles c.planned.plan
last run c k x m h e free most =
    let l = h.left in omega (arith, most, l, one_answered c.tiles k x m e free)

test_is : (a b : ℕ) (x y : Outcome) → a ≡ b → (if a == b then x else y) ≡ x
test_is a b x y e = ap (λ (t : Bool). if t then x else y) (eq-eqb a b e)

test_is_not : (a b : ℕ) (x y : Outcome) → (a ≡ b → ⊥) → (if a == b then x else y) ≡ y
test_is_not a b x y ne = by (a == b) refl
  where
    by : (t : Bool) → (a == b) ≡ t → (if t then x else y) ≡ y
    by true e = absurd (ne (eqb-true a b e))
    by false e = refl

-- the markers of a tile are accepted, and an unanswered tile is left
pub keep_prepared : (run : Run) (c : Checks) (k : ℕ) (x : Tile) (m : List Marker)
    → run.phase ≡ Checking c → run.number < 2 ^ 32 → IsRun run
    → slice_get c.tiles k ≡ Some x → x.answer ≡ None → Answers (job_of_tile run.number c k) m
    → answered c.tiles + 1 < tiles c.planned.plan
    → IsPrepared (let p : Prepared = record { reply = reply.Kept; change = change.Keep k m } in p)
    run (kept run c (set_tile (answered_by m) k c.tiles (slice_get c.tiles k)))
keep_prepared run c k x m e few h at free right less =
    subst (IsPrepared p run) (sym outcome)
    (record {
      reply = refl;
      leaves = leaves;
      fits = record { left = subst IsRun (sym leaves) now; number = few; taken = tt };
    })
  where
    p : Prepared
    p = record { reply = reply.Kept; change = change.Keep k m }

    tiles' : List Tile
    tiles' = slice_set c.tiles k (answered_by m x)

    after : Outcome
    after = record {
      reply = reply.Kept;
      run = record { number = run.number; phase = Checking (with_tiles c tiles') };
    }

    true_of : IsPlanned c.planned × IsChecks run.number c
    true_of = phase_of run (Checking c) e h

    count : answered tiles' ≡ answered c.tiles + 1
    count = one_answered c.tiles k x m at free

    outcome : kept run c (set_tile (answered_by m) k c.tiles (slice_get c.tiles k)) ≡ after
    outcome = ap (λ (t : Option Tile). kept run c (set_tile (answered_by m) k c.tiles t)) at
        ∙ test_is_not (answered tiles') (tiles c.planned.plan) _ after
        (λ s. omega (arith, s, count, less))

    leaves : applied (change.Keep k m) run ≡ after.run
    leaves =
        ap (λ (q : Phase). let r : Run = record {
          number = run.number;
          phase = next_phase (change.Keep k m) q;
        } in r) e
        ∙ ap (λ (t : Option Tile). let r :
        Run = record {
          number = run.number;
          phase = Checking (with_tiles c (set_tile (answered_by m) k c.tiles t));
        } in r) at

    now : IsRun after.run
    now =
        (true_of.0, answer_keeps run.number c k x m true_of.1 at right (omega (arith, count, less)))

-- the last tile is answered
pub finish_prepared : AnswersMakeTheLayout → StitchedComputes
    → (run : Run) (c : Checks) (k : ℕ) (x : Tile) (m : List Marker) (book : List Marker)
    → run.phase ≡ Checking c → run.number < 2 ^ 32 → IsRun run
    → slice_get c.tiles k ≡ Some x → x.answer ≡ None → Answers (job_of_tile run.number c k) m
    → tiles c.planned.plan ≤ answered c.tiles + 1
    → book ≡ stitched (answers_of (set_tile (answered_by m) k c.tiles (slice_get c.tiles k)))
    → IsPrepared (let p : Prepared = record { reply = reply.Finished; change = change.Finish book }
    in p) run (kept run c (set_tile (answered_by m) k c.tiles (slice_get c.tiles k)))
finish_prepared law computes run c k x m book e few h at free right most made =
    subst (IsPrepared p run) (sym outcome)
    (record {
      reply = refl;
      leaves = leaves;
      fits = record { left = subst IsRun (sym leaves) now; number = few; taken = tt };
    })
  where
    p : Prepared
    p = record { reply = reply.Finished; change = change.Finish book }

    tiles' : List Tile
    tiles' = slice_set c.tiles k (answered_by m x)

    after : Outcome
    after = record {
      reply = reply.Finished;
      run = record {
        number = run.number;
        phase = Finished (record { planned = c.planned; book = stitched (answers_of tiles') });
      };
    }

    true_of : IsPlanned c.planned × IsChecks run.number c
    true_of = phase_of run (Checking c) e h

    all : answered tiles' ≡ tiles c.planned.plan
    all = last run.number c k x m true_of.1 at free most

    whole : book ≡ stitched (answers_of tiles')
    whole = made ∙ ap (λ (t : Option Tile).
        stitched (answers_of (set_tile (answered_by m) k c.tiles t))) at

    outcome : kept run c (set_tile (answered_by m) k c.tiles (slice_get c.tiles k)) ≡ after
    outcome = ap (λ (t : Option Tile). kept run c (set_tile (answered_by m) k c.tiles t)) at
        ∙ test_is (answered tiles') (tiles c.planned.plan) after _ all

    leaves : applied (change.Finish book) run ≡ after.run
    leaves =
        ap (λ (q : Phase). let r : Run = record {
          number = run.number;
          phase = next_phase (change.Finish book) q;
        } in r) e
        ∙ ap (λ (b : List Marker). let r :
        Run = record {
          number = run.number;
          phase = Finished (record { planned = c.planned; book = b });
        } in r) whole

    now : IsRun after.run
    now = (true_of.0, finishes law computes run.number c k x m true_of.0 true_of.1 at right all)
