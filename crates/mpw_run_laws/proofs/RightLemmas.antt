-- After a history of right answers, the book of a finished run is that of the flat layout.
use Rattle.std.proofs.Common.{◌≡◌, ◌∙◌, ℕ, ◌<◌, List, [], ◌∷◌, length, get_or, Some, sym, ap, subst, arith, length-set}
use Rattle.std.specs.Prelude.{All}
use Rattle.std.proofs.lemmas.List.{get_or_default}
use Rattle.std.proofs.lemmas.List.Elements.{All-head, All-tail}
use Rattle.mpw_tiles.specs.Plan.{tiles}
use Rattle.mpw_tiles.specs.Snapshots.{Snapshot, IsSnapshot, plan_for, StandFor}
use Rattle.mpw_markers.specs.declared.marker.Marker.{Marker}
use Rattle.mpw_job.specs.Answers.{TileJob, Answers}
use Rattle.mpw_job.specs.Jobs.{CutWindows, FoundMarkers, IsTileAnswer}
use Rattle.mpw_job.specs.Laws.{AnswersMakeTheLayout}
use Rattle.mpw_job.specs.Layout.{AreLayoutMarkers}
use Rattle.mpw_run.specs.declared.phase.Phase.{Phase}
use Rattle.mpw_run.specs.declared.phase.Phase.TheVariants.{Idle, Cutting, Checking, Finished}
use Rattle.mpw_run.specs.Laws.{StitchedComputes}
use Rattle.mpw_run.specs.Run.{Tile, Checks, answers_of, answered, IsChecks}
use Rattle.mpw_run.specs.Step.{Run, answered_by, with_tiles, job_of_tile, restarted_phase}
use Rattle.mpw_run.specs.Stitching.{stitched}
use Rattle.mpw_run.proofs.TileLists.{few_answered}
use Rattle.mpw_run.proofs.Opened.{begins, raise_keeps, answer_keeps, answers_all, filled_lists}
use Rattle.mpw_events.specs.declared.event.Call.{Call}
use Rattle.mpw_events.specs.declared.event.Event.TheVariants as event
use Rattle.mpw_events.specs.History.{state_after, IsLegal}
use Rattle.mpw_events.specs.Step.{State, new_state, after}
use Rattle.mpw_run_laws.specs.Right.{IsRightCut, IsRight, IsRightHistory, BooksAreOfTheLayout}
use Rattle.mpw_run_laws.proofs.Moves.{Takes, Cuts, Answered, IsAsked, tiles_with}
use Rattle.mpw_run_laws.proofs.Calls.{Does, does}

-- ---- what holds of a phase after right answers

record IsCheckedRight (number : ℕ) (c : Checks) : Type 0 where
  snapshot : IsSnapshot c.planned.snapshot
  plan : plan_for c.planned.snapshot ≡ Some c.planned.plan
  checks : IsChecks number c

abbrev IsGood : ℕ → Phase → Type 0
IsGood number Idle = Unit {0}
IsGood number (Cutting p) = plan_for p.snapshot ≡ Some p.plan
IsGood number (Checking c) = IsCheckedRight number c
IsGood number (Finished f) = AreLayoutMarkers f.planned.snapshot f.book

abbrev IsGoodRun : Run → Type 0
IsGoodRun r = IsGood r.number r.phase

good_run : (r q : Run) → r ≡ q → IsGoodRun q → IsGoodRun r
good_run r q e h = subst IsGoodRun (sym e) h

good_phase : (r : Run) (phase : Phase) → r.phase ≡ phase → IsGoodRun r → IsGood r.number phase
good_phase r phase e h = subst (IsGood r.number) e h

good_restarted : (number : ℕ) (phase : Phase) → IsGood number phase
    → IsGood number (restarted_phase phase)
good_restarted number Idle h = tt
good_restarted number (Cutting p) h = h
good_restarted number (Checking c) h = h.plan
good_restarted number (Finished f) h = h

-- ---- answers

answer_right : (r : Run) (answer : FoundMarkers) (c : Checks) (x : Tile) → IsAsked r answer c x
    → IsTileAnswer answer → Answers (job_of_tile r.number c answer.job.tile) answer.markers
answer_right r answer c x a right =
    subst (λ (j : TileJob). Answers j answer.markers) a.job right

good_more : (r : Run) (answer : FoundMarkers) (c : Checks) (x : Tile) → IsAsked r answer c x
    → IsTileAnswer answer → (answered (tiles_with c answer x) ≡ tiles c.planned.plan → ⊥)
    → IsCheckedRight r.number c
    → IsCheckedRight r.number (with_tiles c (tiles_with c answer x))
good_more r answer c x a right ne h =
    let count = length-set c.tiles answer.job.tile (answered_by answer.markers x)
    ∙ h.checks.count in
    record {
      snapshot = h.snapshot;
      plan = h.plan;
      checks = answer_keeps r.number c answer.job.tile x answer.markers h.checks a.at
          (answer_right r answer c x a right)
          (omega (arith, ne, few_answered (tiles_with c answer x), count));
    }

good_last : AnswersMakeTheLayout → StitchedComputes → (r : Run) (answer : FoundMarkers)
    (c : Checks) (x : Tile) → IsAsked r answer c x → IsTileAnswer answer
    → answered (tiles_with c answer x) ≡ tiles c.planned.plan → IsCheckedRight r.number c
    → AreLayoutMarkers c.planned.snapshot (stitched (answers_of (tiles_with c answer x)))
good_last law computes r answer c x a right all h =
    let lists : List (List Marker) = answers_of (tiles_with c answer x) in
    let told = answers_all r.number c answer.job.tile x answer.markers h.checks a.at
    (answer_right r answer c x a right) all in
    law c.planned.snapshot c.planned.plan c.windows r.number lists (stitched lists) h.snapshot
    h.plan h.checks.windows told
    (computes lists (filled_lists c.planned.snapshot c.planned.plan c.windows r.number lists told))

-- ---- a call

tile_right : (call : Call) (answer : FoundMarkers) → call.event ≡ event.Tile answer
    → IsRight call.event → IsTileAnswer answer
tile_right call answer e h = subst IsRight e h

cut_right : (call : Call) (answer : CutWindows) → call.event ≡ event.Cut answer
    → IsRight call.event → IsRightCut answer
cut_right call answer e h = subst IsRight e h

good_on : AnswersMakeTheLayout → StitchedComputes → (s : State) (call : Call) (s' : State)
    → Does s call s' → IsRight call.event → IsGoodRun s.run → IsGoodRun s'.run
good_on law computes s call s' (Does.begun p began stood planned e) right h =
    good_run s'.run _ e planned
good_on law computes s call s' (Does.left left not e) right h = good_run s'.run _ e tt
good_on law computes s call s' (Does.restarted r q e) right h =
    good_run s'.run _ e (good_restarted s.run.number s.run.phase h)
good_on law computes s call s' (Does.stayed q r e) right h = good_run s'.run s.run e h
good_on law computes s call s' (Does.took o q r (Takes.stays same f) e) right h =
    good_run s'.run s.run (e ∙ same) h
good_on law computes s call s' (Does.took o q r (Takes.raises c k x ph at same f) e) right h =
    let g : IsCheckedRight s.run.number c = good_phase s.run (Checking c) ph h in
    good_run s'.run _ (e ∙ same) (record {
      snapshot = g.snapshot;
      plan = g.plan;
      checks = raise_keeps s.run.number c k x g.checks at;
    })
good_on law computes s call s' (Does.cut answer o ev q r (Cuts.stays same f) e) right h =
    good_run s'.run s.run (e ∙ same) h
good_on law computes s call s' (Does.cut answer o ev q r (Cuts.begins p ph own same f) e) right h =
    let g = cut_right call answer ev right in
    good_run s'.run _ (e ∙ same) (record {
      snapshot = subst IsSnapshot own g.snapshot;
      plan = good_phase s.run (Cutting p) ph h;
      checks = begins s.run.number p answer.windows
          (subst (λ (t : Snapshot). StandFor t answer.windows) own g.windows);
    })
good_on law computes s call s' (Does.answered answer o ev told g r (Answered.stays same k f) e)
    right
    h = good_run s'.run s.run (e ∙ same) h
good_on law computes s call s'
    (Does.answered answer o ev told g r (Answered.more c x a reply same ne) e) right h =
    good_run s'.run _ (e ∙ same) (good_more s.run answer c x a (tile_right call answer ev right) ne
    (good_phase s.run (Checking c) a.phase h))
good_on law computes s call s'
    (Does.answered answer o ev told g r (Answered.last c x a reply same all) e) right h =
    good_run s'.run _ (e ∙ same) (good_last law computes s.run answer c x a
    (tile_right call answer ev right) all (good_phase s.run (Checking c) a.phase h))

-- ---- a history

good_after : AnswersMakeTheLayout → StitchedComputes → (s : State) (calls : List Call)
    → IsRightHistory s calls → IsGoodRun s.run → IsGoodRun (state_after s calls).run
good_after law computes s [] right h = h
good_after law computes s (call ∷ calls) right h =
    good_after law computes (after s call.event call.kept) calls right.1
    (good_on law computes s call (after s call.event call.kept) (does s call right.0.legal.told)
    right.0.right h)

new_good : (officer digest : List ℕ) → IsGoodRun (new_state officer digest).run
unfolding new_state
new_good officer digest = tt

pub books_are : AnswersMakeTheLayout → StitchedComputes → BooksAreOfTheLayout
books_are law computes officer digest calls f right e =
    good_phase (state_after (new_state officer digest) calls).run (Finished f) e
    (good_after law computes (new_state officer digest) calls right (new_good officer digest))

-- ---- a legal history of right answers

-- the call at an index of the list
pub right_call : (calls : List Call) (i k : ℕ) (d x : Call) → k ≡ i → i < length calls
    → x ≡ get_or calls i x → IsRight x.event → IsRight (get_or calls k d).event
right_call calls i k d x same l is right =
    subst (λ (call : Call). IsRight call.event)
    (is ∙ get_or_default calls i x d l ∙ ap (λ n. get_or calls n d) (sym same)) right

pub right_history : (s : State) (calls : List Call) → IsLegal s calls
    → All (λ (call : Call). IsRight call.event) calls → IsRightHistory s calls
right_history s [] legal right = tt
right_history s (call ∷ calls) legal right = (
  record {
    legal = legal.0;
    right = All-head (λ (x : Call). IsRight x.event) call calls right;
  },
  right_history (after s call.event call.kept) calls legal.1
      (All-tail (λ (x : Call). IsRight x.event) call calls right),
)
