-- The answers to events, step by step.
use Rattle.std.proofs.Common.{◌≡◌, ℕ, ◌+◌, ◌^◌, ◌<◌, ◌≤◌, Bool, true, false, List, length, get_or, Option, Some, None, refl, sym, subst, ap, ◌∙◌}
use Rattle.std.specs.Prelude.{slice_get, slice_set, is_some, if◌then◌else◌}
use Rattle.std.proofs.lemmas.Bool.{false≢true}
use Rattle.std.proofs.lemmas.Option.{slice_get-get_or}
use Rattle.mpw_tiles.specs.declared.listing.Rectangle.{Rectangle}
use Rattle.mpw_tiles.specs.Plan.{tiles}
use Rattle.mpw_markers.specs.declared.marker.Marker.{Marker}
use Rattle.mpw_job.specs.Answers.{TileJob, Answers}
use Rattle.mpw_job.specs.Jobs.{CutWindows, FoundMarkers, IsCutAnswer, IsTileAnswer}
use Rattle.mpw_job.specs.Laws.{AnswerTiles, AnswersMakeTheLayout}
use Rattle.mpw_run.specs.declared.phase.Phase.TheVariants.{Cutting, Checking}
use Rattle.mpw_run.specs.declared.phase.RunReply.TheVariants as reply
use Rattle.mpw_run.specs.declared.prepare.Change.TheVariants as change
use Rattle.mpw_run.specs.declared.prepare.Prepared.{Prepared}
use Rattle.mpw_run.specs.Run.{Planned, Tile, Checks, answers_of, answered, IsPlanned, IsChecks}
use Rattle.mpw_run.specs.Same.{same_tile_job}
use Rattle.mpw_run.specs.Step.{Run, Outcome, IsRun, job_of_tile, answered_by, new_tiles, begun, left_as, kept, tile_compared, tile_checked}
use Rattle.mpw_run.specs.Prepared.{set_tile, IsPrepared}
use Rattle.mpw_run.specs.Internal.Prepared.{answers_with}
use Rattle.mpw_run.specs.Stitching.{stitched, AreFilled}
use Rattle.mpw_run.specs.Laws.{StitchedComputes}
use Rattle.mpw_run.proofs.Exactness.{tile_jobs}
use Rattle.mpw_run.proofs.TileLists.{new_tile}
use Rattle.mpw_run.proofs.Opened.{filled_lists, answers_all}
use Rattle.mpw_run.proofs.Changes.{phase_of, cut_prepared, last, keep_prepared, finish_prepared}

-- ---- the answers to events, step by step

abbrev Prepares : Prepared → Run → Outcome → Type 0
Prepares p run o = IsPrepared p run o

when : (p : Prepared) (run : Run) (b : Bool) (x y : Outcome) → b ≡ true → Prepares p run x
    → Prepares p run (if b then x else y)
when p run b x y e h = subst (λ (t : Bool). Prepares p run (if t then x else y)) (sym e) h

compared : (p : Prepared) (run : Run) (c : Checks) (answer : FoundMarkers) (x : Tile)
    (a : Option (List Marker)) → slice_get c.tiles answer.job.tile ≡ Some x → x.answer ≡ a
    → Prepares p run (tile_compared run c answer x a)
    → Prepares p run (tile_checked run c answer (slice_get c.tiles answer.job.tile))
compared p run c answer x a e w h =
    subst (λ (t : Option Tile). Prepares p run (tile_checked run c answer t)) (sym e)
    (subst (λ (b : Option (List Marker)). Prepares p run (tile_compared run c answer x b))
    (sym w) h)

open_is : (a : Option (List Marker)) → is_some a ≡ false → a ≡ None
open_is None e = refl
open_is (Some m) e = absurd (false≢true (sym e))

pub own_job : (p : Prepared) (run : Run) (c : Checks) (answer : FoundMarkers) (x : Tile)
    → slice_get c.tiles answer.job.tile ≡ Some x → is_some x.answer ≡ false
    → same_tile_job answer.job (job_of_tile run.number c answer.job.tile) ≡ true
    → Prepares p run (kept run c (set_tile (answered_by answer.markers) answer.job.tile c.tiles
    (slice_get c.tiles answer.job.tile)))
    → Prepares p run (tile_checked run c answer (slice_get c.tiles answer.job.tile))
own_job p run c answer x e s t h =
    compared p run c answer x None e (open_is x.answer s)
    (when p run (same_tile_job answer.job (job_of_tile run.number c answer.job.tile)) _
    (left_as reply.Stranger run) t
    (subst (λ (y : Option Tile). Prepares p run
    (kept run c (set_tile (answered_by answer.markers) answer.job.tile c.tiles y))) e h))

-- ---- what is prepared, in terms of the code's values

-- the check begins
pub cut_is : (run : Run) (planned : Planned) (answer : CutWindows) (windows : List (List Rectangle))
    (xs : List Tile) → run.phase ≡ Cutting planned → run.number < 2 ^ 32 → IsRun run
    → answer.job.snapshot ≡ planned.snapshot → IsCutAnswer answer → windows ≡ answer.windows
    → xs ≡ new_tiles (tiles planned.plan)
    → IsPrepared (let p : Prepared = record { reply = reply.Kept; change = change.Check windows xs }
    in p) run (begun run planned answer)
cut_is run planned answer windows xs e few h same right w x =
    subst (λ (ws : List (List Rectangle)). IsPrepared (made ws xs) run (begun run planned answer))
    (sym w)
    (subst (λ (ts : List Tile). IsPrepared (made answer.windows ts) run (begun run planned answer))
    (sym x) (cut_prepared run planned answer e few h same right))
  where
    made : List (List Rectangle) → List Tile → Prepared
    made ws ts = record { reply = reply.Kept; change = change.Check ws ts }

-- what holds of a tile that is answered now: there is such a tile, it is unanswered, and the markers are
-- those of its job
pub record IsOpen (run : Run) (c : Checks) (answer : FoundMarkers) (k : ℕ) : Type 0 where
  pub phase : run.phase ≡ Checking c
  pub few : run.number < 2 ^ 32
  pub run_is : IsRun run
  pub within : k < length c.tiles
  pub unanswered : (x : Tile) → slice_get c.tiles k ≡ Some x → x.answer ≡ None
  pub job : answer.job ≡ job_of_tile run.number c k
  pub right : IsTileAnswer answer

pub open_tile : (run : Run) (c : Checks) (answer : FoundMarkers) (k : ℕ) → run.phase ≡ Checking c
    → run.number < 2 ^ 32 → IsRun run → k < length c.tiles
    → ((x : Tile) → slice_get c.tiles k ≡ Some x → x.answer ≡ None)
    → answer.job ≡ job_of_tile run.number c k → IsTileAnswer answer → IsOpen run c answer k
open_tile run c answer k phase few run_is within unanswered job right = record {
  phase = phase;
  few = few;
  run_is = run_is;
  within = within;
  unanswered = unanswered;
  job = job;
  right = right;
}

tile_at : Checks → ℕ → Tile
tile_at c k = get_or c.tiles k new_tile

at_is : (c : Checks) (k : ℕ) → k < length c.tiles → slice_get c.tiles k ≡ Some (tile_at c k)
unfolding tile_at
at_is c k l = slice_get-get_or c.tiles k new_tile l

answers_job : (run : Run) (c : Checks) (answer : FoundMarkers) (k : ℕ) → IsOpen run c answer k
    → Answers (job_of_tile run.number c k) answer.markers
answers_job run c answer k h = subst (λ (t : TileJob). Answers t answer.markers) h.job h.right

-- the outcome `kept` is that of the answer
own_kept : (p : Prepared) (run : Run) (c : Checks) (answer : FoundMarkers) (k : ℕ)
    → IsOpen run c answer k
    → Prepares p run (kept run c (set_tile (answered_by answer.markers) k c.tiles
    (slice_get c.tiles k)))
    → Prepares p run (tile_checked run c answer (slice_get c.tiles answer.job.tile))
own_kept p run c answer k h made =
    own_job p run c answer (tile_at c n) at open_now
    ((tile_jobs answer.job (job_of_tile run.number c n)).1 job)
    (subst (λ (j : ℕ). Prepares p run (kept run c
    (set_tile (answered_by answer.markers) j c.tiles (slice_get c.tiles j)))) same made)
  where
    n : ℕ
    n = answer.job.tile

    same : k ≡ n
    same = sym (ap (λ (t : TileJob). t.tile) h.job)

    job : answer.job ≡ job_of_tile run.number c n
    job = subst (λ (j : ℕ). answer.job ≡ job_of_tile run.number c j) same h.job

    at : slice_get c.tiles n ≡ Some (tile_at c n)
    at = at_is c n (subst (λ (j : ℕ). j < length c.tiles) same h.within)

    open_now : is_some (tile_at c n).answer ≡ false
    open_now = ap (λ (a : Option (List Marker)). is_some a)
        (h.unanswered (tile_at c n) (ap (slice_get c.tiles) same ∙ at))

-- an unanswered tile is left
pub keep_is : (run : Run) (c : Checks) (answer : FoundMarkers) (k : ℕ) (m : List Marker)
    → IsOpen run c answer k → m ≡ answer.markers → answered c.tiles + 1 < tiles c.planned.plan
    → IsPrepared (let p : Prepared = record { reply = reply.Kept; change = change.Keep k m } in p)
    run (tile_checked run c answer (slice_get c.tiles answer.job.tile))
keep_is run c answer k m h e less =
    subst (λ (n : List Marker). IsPrepared (made n) run
    (tile_checked run c answer (slice_get c.tiles answer.job.tile))) (sym e)
    (own_kept (made answer.markers) run c answer k h
    (keep_prepared run c k (tile_at c k) answer.markers h.phase h.few h.run_is (at_is c k h.within)
    (h.unanswered (tile_at c k) (at_is c k h.within)) (answers_job run c answer k h) less))
  where
    made : List Marker → Prepared
    made n = record { reply = reply.Kept; change = change.Keep k n }

-- the last tile's answer: the lists are filled, and the book is theirs
pub filled_is : (run : Run) (c : Checks) (answer : FoundMarkers) (k : ℕ) → IsOpen run c answer k
    → tiles c.planned.plan ≤ answered c.tiles + 1
    → AreFilled (answers_with answer.markers k c.tiles)
filled_is run c answer k h most =
    subst (λ (t : Option Tile). AreFilled
    (answers_of (set_tile (answered_by answer.markers) k c.tiles t))) (sym at)
    (filled_lists c.planned.snapshot c.planned.plan c.windows run.number
    (answers_of (slice_set c.tiles k (answered_by answer.markers (tile_at c k)))) all)
  where
    true_of : IsPlanned c.planned × IsChecks run.number c
    true_of = phase_of run (Checking c) h.phase h.run_is

    at : slice_get c.tiles k ≡ Some (tile_at c k)
    at = at_is c k h.within

    all : AnswerTiles c.planned.snapshot c.planned.plan c.windows run.number
        (answers_of (slice_set c.tiles k (answered_by answer.markers (tile_at c k))))
    all = answers_all run.number c k (tile_at c k) answer.markers true_of.1 at
        (answers_job run c answer k h)
        (last run.number c k (tile_at c k) answer.markers true_of.1 at
        (h.unanswered (tile_at c k) at) most)

pub finish_is : AnswersMakeTheLayout → StitchedComputes
    → (run : Run) (c : Checks) (answer : FoundMarkers) (k : ℕ) (book : List Marker)
    → IsOpen run c answer k
    → tiles c.planned.plan ≤ answered c.tiles + 1
    → book ≡ stitched (answers_with answer.markers k c.tiles)
    → IsPrepared (let p : Prepared = record { reply = reply.Finished; change = change.Finish book }
    in p) run (tile_checked run c answer (slice_get c.tiles answer.job.tile))
finish_is law computes run c answer k book h most made =
    own_kept (record { reply = reply.Finished; change = change.Finish book }) run c answer k h
    (finish_prepared law computes run c k (tile_at c k) answer.markers book h.phase h.few h.run_is
    (at_is c k h.within) (h.unanswered (tile_at c k) (at_is c k h.within))
    (answers_job run c answer k h) most made)
