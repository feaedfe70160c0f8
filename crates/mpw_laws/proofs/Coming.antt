-- Every run is sound after any events.
use Rattle.std.proofs.Common.{◌≡◌, ℕ, ◌<◌, false, List, [], ◌∷◌, Option, Some, None, refl, sym, subst, ap, ◌∙◌, inl, inr, arith, length-set}
use Rattle.std.specs.Prelude.{◌==◌, slice_get, slice_set, nat_lt}
use Rattle.std.proofs.lemmas.Bool.{false≢true, eqb-true, eq-eqb, cases_eq}
use Rattle.mpw_tiles.specs.Plan.{tiles}
use Rattle.mpw_tiles.specs.Snapshots.{Snapshot, StandFor}
use Rattle.mpw_markers.specs.declared.marker.Marker.{Marker}
use Rattle.mpw_job.specs.Answers.{TileJob, Answers}
use Rattle.mpw_job.specs.Jobs.{CutWindows, FoundMarkers, IsCutAnswer, IsTileAnswer}
use Rattle.mpw_job.specs.Laws.{AnswersMakeTheLayout}
use Rattle.mpw_run.specs.declared.phase.Phase.{Phase}
use Rattle.mpw_run.specs.declared.phase.Phase.TheVariants.{Idle, Cutting, Checking, Finished}
use Rattle.mpw_run.specs.Run.{Tile, Checks, answered, IsPlanned, IsChecks}
use Rattle.mpw_run.specs.Step.{Run, Offer, Outcome, IsPhase, IsRun, job_of_tile, answered_by, next_from, handed, taken_in, cut_in, kept, tile_compared, tile_checked, tile_in}
use Rattle.mpw_run.specs.Same.{same_snapshot, same_tile_job}
use Rattle.mpw_run.specs.Laws.{StitchedComputes}
use Rattle.mpw_laws.specs.RunLaws.{Event, step, IsRight, run_after, EachRunKeeps}
use Rattle.mpw_run.proofs.Exactness.{snapshots, tile_jobs}
use Rattle.mpw_run.proofs.TileLists.{few_answered}
use Rattle.mpw_run.proofs.Next.{next_is}
use Rattle.mpw_laws.proofs.Tests.{either}
use Rattle.mpw_run.proofs.Opened.{begins, raise_keeps, answer_keeps, finishes}

abbrev Keeps : Outcome → Type 0
Keeps o = IsRun o.run

-- ---- events

handed_keeps : (run : Run) (c : Checks) (o : Option Offer) → next_from 0 c.tiles ≡ o
    → IsPlanned c.planned × IsChecks run.number c → IsRun run → Keeps (handed run c o)
handed_keeps run c None e h r = r
handed_keeps run c (Some o) e h r =
    let i = next_is 0 c.tiles o e in
    let at : slice_get c.tiles o.number ≡ Some o.tile =
    ap (slice_get c.tiles) (let n = i.number in omega (arith, n)) ∙ i.at in
    (h.0, raise_keeps run.number c o.number o.tile h.1 at)

take_keeps : (run : Run) (phase : Phase) → IsPhase run.number phase → IsRun run
    → Keeps (taken_in run phase)
take_keeps run Idle h r = r
take_keeps run (Cutting planned) h r = r
take_keeps run (Checking c) h r = handed_keeps run c (next_from 0 c.tiles) refl h r
take_keeps run (Finished f) h r = r

cut_keeps : (run : Run) (answer : CutWindows) (phase : Phase) → IsCutAnswer answer
    → IsPhase run.number phase → IsRun run → Keeps (cut_in run answer phase)
cut_keeps run answer Idle a h r = r
cut_keeps run answer (Cutting planned) a h r =
    either Keeps (same_snapshot answer.job.snapshot planned.snapshot) _ _
    (λ t. (
      h,
      begins run.number planned answer.windows
          (subst (λ (s : Snapshot). StandFor s answer.windows)
          ((snapshots answer.job.snapshot planned.snapshot).0 t) a),
    ))
    (λ f. r)
cut_keeps run answer (Checking c) a h r = r
cut_keeps run answer (Finished f) a h r = r

kept_keeps : AnswersMakeTheLayout → StitchedComputes
    → (run : Run) (c : Checks) (k : ℕ) (x : Tile) (m : List Marker) → IsPlanned c.planned
    → IsChecks run.number c
    → slice_get c.tiles k ≡ Some x → Answers (job_of_tile run.number c k) m
    → Keeps (kept run c (slice_set c.tiles k (answered_by m x)))
kept_keeps law computes run c k x m p h e right =
    either Keeps (answered now == tiles c.planned.plan) _ _
    (λ t. (p, finishes law computes run.number c k x m p h e right (eqb-true _ _ t)))
    (λ f. (p, answer_keeps run.number c k x m h e right (less f)))
  where
    now : List Tile
    now = slice_set c.tiles k (answered_by m x)

    less : (answered now == tiles c.planned.plan) ≡ false → answered now < tiles c.planned.plan
    less f = elim (cases_eq (answered now) (tiles c.planned.plan)) [
      | inl s ↦ absurd (false≢true (sym f ∙ eq-eqb (answered now) (tiles c.planned.plan) s))
      | inr ne ↦ omega (
        arith,
        ne,
        few_answered now,
        length-set c.tiles k (answered_by m x),
        h.count,
      )
    ]

compared_keeps : AnswersMakeTheLayout → StitchedComputes
    → (run : Run) (c : Checks) (answer : FoundMarkers) (x : Tile) (a : Option (List Marker))
    → IsTileAnswer answer
    → IsPlanned c.planned → IsChecks run.number c → slice_get c.tiles answer.job.tile ≡ Some x
    → IsRun run → Keeps (tile_compared run c answer x a)
compared_keeps law computes run c answer x (Some m) t p h e r = r
compared_keeps law computes run c answer x None t p h e r =
    either Keeps (same_tile_job answer.job (job_of_tile run.number c answer.job.tile)) _ _
    (λ b. kept_keeps law computes run c answer.job.tile x answer.markers p h e
    (subst (λ (job : TileJob). Answers job answer.markers)
    ((tile_jobs answer.job (job_of_tile run.number c answer.job.tile)).0 b) t))
    (λ f. r)

checked_keeps : AnswersMakeTheLayout → StitchedComputes
    → (run : Run) (c : Checks) (answer : FoundMarkers) (x : Option Tile) → IsTileAnswer answer
    → IsPlanned c.planned → IsChecks run.number c → slice_get c.tiles answer.job.tile ≡ x
    → IsRun run → Keeps (tile_checked run c answer x)
checked_keeps law computes run c answer None t p h e r = r
checked_keeps law computes run c answer (Some x) t p h e r =
    compared_keeps law computes run c answer x x.answer t p h e r

tile_keeps : AnswersMakeTheLayout → StitchedComputes
    → (run : Run) (answer : FoundMarkers) (phase : Phase) → IsTileAnswer answer
    → IsPhase run.number phase → IsRun run → Keeps (tile_in run answer phase)
tile_keeps law computes run answer Idle t h r = r
tile_keeps law computes run answer (Cutting planned) t h r = r
tile_keeps law computes run answer (Checking c) t h r =
    checked_keeps law computes run c answer (slice_get c.tiles answer.job.tile) t h.0 h.1 refl r
tile_keeps law computes run answer (Finished f) t h r =
    either Keeps (nat_lt answer.job.tile (tiles f.planned.plan)) _ _ (λ u. r) (λ u. r)

-- ---- all events

event_keeps : AnswersMakeTheLayout → StitchedComputes → (run : Run) (event : Event) → IsRight event
    → IsRun run → Keeps (step run event)
event_keeps law computes run (Event.start planned) p r = p
event_keeps law computes run Event.cancel p r = tt
event_keeps law computes run Event.take p r = take_keeps run run.phase r r
event_keeps law computes run (Event.cut answer) p r =
    either Keeps (run.number == answer.job.run) _ _ (λ t. cut_keeps run answer run.phase p r r)
    (λ f. r)
event_keeps law computes run (Event.tile answer) p r =
    either Keeps (run.number == answer.job.run) _ _
    (λ t. tile_keeps law computes run answer run.phase p r r) (λ f. r)

pub keeps : AnswersMakeTheLayout → StitchedComputes → EachRunKeeps
keeps law computes [] right = tt
keeps law computes (event ∷ before) right =
    event_keeps law computes (run_after before) event right.0 (keeps law computes before right.1)
