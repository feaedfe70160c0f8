-- How the events of a run change it.
use Rattle.std.proofs.Common.{◌≡◌, ℕ, Bool, true, false, List, Option, Some, None, refl, sym, ap, ◌∙◌, arith}
use Rattle.std.specs.Prelude.{◌==◌, slice_get, slice_set, nat_lt, if◌then◌else◌}
use Rattle.std.proofs.lemmas.Bool.{true≢false, eqb-true, eq-eqb}
use Rattle.mpw_tiles.specs.Plan.{tiles}
use Rattle.mpw_markers.specs.declared.marker.Marker.{Marker}
use Rattle.mpw_job.specs.Jobs.{CutWindows, FoundMarkers}
use Rattle.mpw_run.specs.declared.phase.Phase.{Phase}
use Rattle.mpw_run.specs.declared.phase.Phase.TheVariants.{Idle, Cutting, Checking, Finished}
use Rattle.mpw_run.specs.declared.phase.RunReply.{RunReply}
use Rattle.mpw_run.specs.declared.phase.RunReply.TheVariants as reply
use Rattle.mpw_run.specs.Laws.{finishes}
use Rattle.mpw_run.specs.Run.{Planned, Tile, Checks, answers_of, answered}
use Rattle.mpw_run.specs.Same.{same_snapshot, same_tile_job}
use Rattle.mpw_run.specs.Step.{Run, Offer, Outcome, raised, answered_by, with_tiles, new_tiles, next_from, job_of_tile, handed, taken_in, taken, cut_in, cut_answered, kept, tile_compared, tile_checked, tile_in, tile_answered}
use Rattle.mpw_run.specs.Stitching.{stitched}
use Rattle.mpw_run.proofs.Exactness.{snapshots, tile_jobs}
use Rattle.mpw_run.proofs.Next.{next_is}

-- what holds of both outcomes of a test holds of the one that it gives
pub either : (P : Outcome → Type 0) (b : Bool) (x y : Outcome) → (b ≡ true → P x)
    → (b ≡ false → P y) → P (if b then x else y)
either P true x y f g = f refl
either P false x y f g = g refl

-- ---- calls for a job

-- the run is unchanged, or a tile was handed out once more
pub data Takes (run : Run) (o : Outcome) : Type 0 where
  stays : o.run ≡ run → finishes o.reply ≡ false → Takes run o
  raises : (c : Checks) (k : ℕ) (x : Tile) → run.phase ≡ Checking c → slice_get c.tiles k ≡ Some x
      → o.run ≡ record {
        number = run.number;
        phase = Checking (with_tiles c (slice_set c.tiles k (raised x)));
      } → finishes o.reply ≡ false → Takes run o

handed_takes : (run : Run) (c : Checks) (o : Option Offer) → next_from 0 c.tiles ≡ o
    → run.phase ≡ Checking c → Takes run (handed run c o)
handed_takes run c None e p = Takes.stays refl refl
handed_takes run c (Some o) e p =
    let i = next_is 0 c.tiles o e in
    Takes.raises c o.number o.tile p
    (ap (slice_get c.tiles) (let n = i.number in omega (arith, n)) ∙ i.at) refl refl

takes_in : (run : Run) (phase : Phase) → run.phase ≡ phase → Takes run (taken_in run phase)
takes_in run Idle e = Takes.stays refl refl
takes_in run (Cutting planned) e = Takes.stays refl refl
takes_in run (Checking c) e = handed_takes run c (next_from 0 c.tiles) refl e
takes_in run (Finished f) e = Takes.stays refl refl

pub takes : (run : Run) → Takes run (taken run)
takes run = takes_in run run.phase refl

-- ---- windows

-- the run is unchanged, or the windows of its own snapshot were handed in and its tiles are being checked
pub data Cuts (run : Run) (answer : CutWindows) (o : Outcome) : Type 0 where
  stays : o.run ≡ run → finishes o.reply ≡ false → Cuts run answer o
  begins : (planned : Planned) → run.phase ≡ Cutting planned
      → answer.job.snapshot ≡ planned.snapshot → o.run ≡ record {
        number = run.number;
        phase = Checking (record {
          planned = planned;
          windows = answer.windows;
          tiles = new_tiles (tiles planned.plan);
        });
      } → finishes o.reply ≡ false → Cuts run answer o

cuts_in : (run : Run) (answer : CutWindows) (phase : Phase) → run.phase ≡ phase
    → Cuts run answer (cut_in run answer phase)
cuts_in run answer Idle e = Cuts.stays refl refl
cuts_in run answer (Cutting planned) e =
    either (Cuts run answer) (same_snapshot answer.job.snapshot planned.snapshot) _ _
    (λ t. Cuts.begins planned e ((snapshots answer.job.snapshot planned.snapshot).0 t) refl refl)
    (λ f. Cuts.stays refl refl)
cuts_in run answer (Checking c) e = Cuts.stays refl refl
cuts_in run answer (Finished f) e = Cuts.stays refl refl

pub cuts : (run : Run) (answer : CutWindows) → Cuts run answer (cut_answered run answer)
cuts run answer = either (Cuts run answer) (run.number == answer.job.run) _ _
    (λ t. cuts_in run answer run.phase refl) (λ f. Cuts.stays refl refl)

-- ---- markers of tiles

-- the tiles with the markers for one of them
abbrev pub tiles_with : Checks → FoundMarkers → Tile → List Tile
tiles_with c answer x = slice_set c.tiles answer.job.tile (answered_by answer.markers x)

-- the reply says that the markers are accepted
abbrev pub keeps : RunReply → Bool
keeps reply.Kept = true
keeps reply.Finished = true
keeps _ = false

-- the tile is being checked and has no answer yet, and the markers are those of its job
pub record IsAsked (run : Run) (answer : FoundMarkers) (c : Checks) (x : Tile) : Type 0 where
  pub phase : run.phase ≡ Checking c
  pub at : slice_get c.tiles answer.job.tile ≡ Some x
  pub unanswered : x.answer ≡ None
  pub job : answer.job ≡ job_of_tile run.number c answer.job.tile

-- the run is unchanged, or the markers are accepted: as one more tile's, or as the last one's
pub data Answered (run : Run) (answer : FoundMarkers) (o : Outcome) : Type 0 where
  stays : o.run ≡ run → keeps o.reply ≡ false → finishes o.reply ≡ false → Answered run answer o
  more : (c : Checks) (x : Tile) → IsAsked run answer c x → o.reply ≡ reply.Kept
      → o.run ≡ record {
        number = run.number;
        phase = Checking (with_tiles c (tiles_with c answer x));
      } → (answered (tiles_with c answer x) ≡ tiles c.planned.plan → ⊥) → Answered run answer o
  last : (c : Checks) (x : Tile) → IsAsked run answer c x → o.reply ≡ reply.Finished
      → o.run ≡ record {
        number = run.number;
        phase = Finished (record {
          planned = c.planned;
          book = stitched (answers_of (tiles_with c answer x));
        });
      } → answered (tiles_with c answer x) ≡ tiles c.planned.plan → Answered run answer o

kept_answered : (run : Run) (answer : FoundMarkers) (c : Checks) (x : Tile)
    → IsAsked run answer c x → Answered run answer (kept run c (tiles_with c answer x))
kept_answered run answer c x h =
    either (Answered run answer) (answered (tiles_with c answer x) == tiles c.planned.plan) _ _
    (λ t. Answered.last c x h refl refl (eqb-true _ _ t))
    (λ f. Answered.more c x h refl refl (λ e. true≢false (sym (eq-eqb _ _ e) ∙ f)))

compared_answered : (run : Run) (answer : FoundMarkers) (c : Checks) (x : Tile)
    (a : Option (List Marker)) → run.phase ≡ Checking c
    → slice_get c.tiles answer.job.tile ≡ Some x → x.answer ≡ a
    → Answered run answer (tile_compared run c answer x a)
compared_answered run answer c x (Some m) p at e = Answered.stays refl refl refl
compared_answered run answer c x None p at e =
    either (Answered run answer)
    (same_tile_job answer.job (job_of_tile run.number c answer.job.tile)) _ _
    (λ b. kept_answered run answer c x
    (record {
      phase = p;
      at = at;
      unanswered = e;
      job = (tile_jobs answer.job (job_of_tile run.number c answer.job.tile)).0 b;
    }))
    (λ f. Answered.stays refl refl refl)

checked_answered : (run : Run) (answer : FoundMarkers) (c : Checks) (x : Option Tile)
    → run.phase ≡ Checking c → slice_get c.tiles answer.job.tile ≡ x
    → Answered run answer (tile_checked run c answer x)
checked_answered run answer c None p at = Answered.stays refl refl refl
checked_answered run answer c (Some x) p at = compared_answered run answer c x x.answer p at refl

answered_in : (run : Run) (answer : FoundMarkers) (phase : Phase) → run.phase ≡ phase
    → Answered run answer (tile_in run answer phase)
answered_in run answer Idle e = Answered.stays refl refl refl
answered_in run answer (Cutting planned) e = Answered.stays refl refl refl
answered_in run answer (Checking c) e =
    checked_answered run answer c (slice_get c.tiles answer.job.tile) e refl
answered_in run answer (Finished f) e =
    either (Answered run answer) (nat_lt answer.job.tile (tiles f.planned.plan)) _ _
    (λ t. Answered.stays refl refl refl) (λ t. Answered.stays refl refl refl)

pub answers : (run : Run) (answer : FoundMarkers) → Answered run answer (tile_answered run answer)
answers run answer = either (Answered run answer) (run.number == answer.job.run) _ _
    (λ t. answered_in run answer run.phase refl) (λ f. Answered.stays refl refl refl)
