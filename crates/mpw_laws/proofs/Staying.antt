-- How a run goes on, what leaves it unchanged, and what a call for a job changes.
use Rattle.std.proofs.Common.{◌≡◌, ℕ, zero, suc, true, ◌⊎◌, inl, inr, List, [], ◌∷◌, map, Option, Some, None, refl, sym, ap, ◌∙◌, arith}
use Rattle.std.specs.Prelude.{◌==◌, slice_get, slice_set, nat_lt}
use Rattle.std.proofs.lemmas.Bool.{false≢true}
use Rattle.std.proofs.lemmas.Option.{same_Some, none-some, slice_get_past}
use Rattle.mpw_tiles.specs.Plan.{tiles}
use Rattle.mpw_markers.specs.declared.marker.Marker.{Marker}
use Rattle.mpw_job.specs.Jobs.{CutWindows, FoundMarkers}
use Rattle.mpw_run.specs.declared.phase.Phase.{Phase}
use Rattle.mpw_run.specs.declared.phase.Phase.TheVariants.{Idle, Cutting, Checking, Finished}
use Rattle.mpw_run.specs.Run.{Tile, Checks, answered}
use Rattle.mpw_run.specs.Step.{Run, Offer, Outcome, raised, answered_by, with_tiles, next_from, handed, taken_in, cut_in, kept, job_of_tile, tile_compared, tile_checked, tile_in}
use Rattle.mpw_run.specs.Same.{same_snapshot, same_tile_job}
use Rattle.mpw_laws.specs.RunLaws.{Event, leaves, is_finished, UnkeptLeavesTheRun, GoesOn, IsFinishedNow, RunsGoOnOrAreFinished, uncounted, without_counts, TakingCountsAlone}
use Rattle.mpw_laws.proofs.Tests.{either}
use Rattle.mpw_run.proofs.Next.{next_is}

-- ---- how a run goes on

handed_goes : (run : Run) (c : Checks) (o : Option Offer) → run.phase ≡ Checking c
    → GoesOn run (handed run c o)
handed_goes run c None e = GoesOn.stays refl refl
handed_goes run c (Some o) e = GoesOn.moves refl (ap is_finished e) refl refl refl

take_goes : (run : Run) (phase : Phase) → run.phase ≡ phase → GoesOn run (taken_in run phase)
take_goes run Idle e = GoesOn.stays refl refl
take_goes run (Cutting planned) e = GoesOn.stays refl refl
take_goes run (Checking c) e = handed_goes run c (next_from 0 c.tiles) e
take_goes run (Finished f) e = GoesOn.stays refl refl

cut_goes : (run : Run) (answer : CutWindows) (phase : Phase) → run.phase ≡ phase
    → GoesOn run (cut_in run answer phase)
cut_goes run answer Idle e = GoesOn.stays refl refl
cut_goes run answer (Cutting planned) e =
    either (GoesOn run) (same_snapshot answer.job.snapshot planned.snapshot) _ _
    (λ t. GoesOn.moves refl (ap is_finished e) refl refl refl) (λ f. GoesOn.stays refl refl)
cut_goes run answer (Checking c) e = GoesOn.stays refl refl
cut_goes run answer (Finished f) e = GoesOn.stays refl refl

-- after the answer of a tile it may also be finished
abbrev Comes : Run → Outcome → Type 0
Comes run o = GoesOn run o ⊎ IsFinishedNow run o

kept_comes : (run : Run) (c : Checks) (now : List Tile) → run.phase ≡ Checking c
    → Comes run (kept run c now)
kept_comes run c now e = either (Comes run) (answered now == tiles c.planned.plan) _ _
    (λ t. inr (record { number = refl; before = ap is_finished e; behind = refl; told = refl }))
    (λ f. inl (GoesOn.moves refl (ap is_finished e) refl refl refl))

compared_comes : (run : Run) (c : Checks) (answer : FoundMarkers) (tile : Tile)
    (a : Option (List Marker)) → run.phase ≡ Checking c
    → Comes run (tile_compared run c answer tile a)
compared_comes run c answer tile (Some m) e = inl (GoesOn.stays refl refl)
compared_comes run c answer tile None e =
    either (Comes run) (same_tile_job answer.job (job_of_tile run.number c answer.job.tile)) _ _
    (λ t. kept_comes run c (slice_set c.tiles answer.job.tile (answered_by answer.markers tile)) e)
    (λ f. inl (GoesOn.stays refl refl))

checked_comes : (run : Run) (c : Checks) (answer : FoundMarkers) (tile : Option Tile)
    → run.phase ≡ Checking c → Comes run (tile_checked run c answer tile)
checked_comes run c answer None e = inl (GoesOn.stays refl refl)
checked_comes run c answer (Some tile) e = compared_comes run c answer tile tile.answer e

tile_comes : (run : Run) (answer : FoundMarkers) (phase : Phase) → run.phase ≡ phase
    → Comes run (tile_in run answer phase)
tile_comes run answer Idle e = inl (GoesOn.stays refl refl)
tile_comes run answer (Cutting planned) e = inl (GoesOn.stays refl refl)
tile_comes run answer (Checking c) e =
    checked_comes run c answer (slice_get c.tiles answer.job.tile) e
tile_comes run answer (Finished f) e =
    either (Comes run) (nat_lt answer.job.tile (tiles f.planned.plan)) _ _
    (λ t. inl (GoesOn.stays refl refl)) (λ t. inl (GoesOn.stays refl refl))

pub goes_on : RunsGoOnOrAreFinished
goes_on = record {
  take = λ run. take_goes run run.phase refl;
  cut = λ run answer. either (GoesOn run) (run.number == answer.job.run) _ _
      (λ t. cut_goes run answer run.phase refl) (λ f. GoesOn.stays refl refl);
  tile = λ run answer. either (Comes run) (run.number == answer.job.run) _ _
      (λ t. tile_comes run answer run.phase refl) (λ f. inl (GoesOn.stays refl refl));
}

-- ---- what is not accepted

on_stays : (run : Run) (o : Outcome) → GoesOn run o → leaves o.reply ≡ true → o.run ≡ run
on_stays run o (GoesOn.stays same going) e = same
on_stays run o (GoesOn.moves number before behind kept going) e = absurd (false≢true (sym kept ∙ e))

comes_stays : (run : Run) (o : Outcome) → Comes run o → leaves o.reply ≡ true → o.run ≡ run
comes_stays run o (inl on) e = on_stays run o on e
comes_stays run o (inr now) e = absurd (false≢true (sym (ap leaves now.told) ∙ e))

pub stays : UnkeptLeavesTheRun
stays run (Event.start planned) e = absurd (false≢true e)
stays run Event.cancel e = absurd (false≢true e)
stays run Event.take e = on_stays run _ (goes_on.take run) e
stays run (Event.cut answer) e = on_stays run _ (goes_on.cut run answer) e
stays run (Event.tile answer) e = comes_stays run _ (goes_on.tile run answer) e

-- ---- what a call for a job changes

raised_uncounted : (xs : List Tile) (k : ℕ) (x : Tile) → slice_get xs k ≡ Some x
    → map uncounted (slice_set xs k (raised x)) ≡ map uncounted xs
raised_uncounted [] k x e =
    absurd (none-some x (sym (slice_get_past {X = Tile} [] k (omega arith)) ∙ e))
raised_uncounted (t ∷ xs) zero x e =
    ap (λ (u : Tile). uncounted u ∷ map uncounted xs) (sym (same_Some t x e))
raised_uncounted (t ∷ xs) (suc k) x e =
    ap (λ (us : List Tile). uncounted t ∷ us) (raised_uncounted xs k x e)

handed_counts : (run : Run) (c : Checks) (o : Option Offer) → next_from 0 c.tiles ≡ o
    → run.phase ≡ Checking c → without_counts (handed run c o).run.phase ≡ without_counts run.phase
handed_counts run c None e p = refl
handed_counts run c (Some o) e p =
    let i = next_is 0 c.tiles o e in
    let at : slice_get c.tiles o.number ≡ Some o.tile =
    ap (slice_get c.tiles) (let n = i.number in omega (arith, n)) ∙ i.at in
    ap (λ (us : List Tile). Checking (with_tiles c us))
    (raised_uncounted c.tiles o.number o.tile at) ∙ sym (ap without_counts p)

on_number : (run : Run) (o : Outcome) → GoesOn run o → o.run.number ≡ run.number
on_number run o (GoesOn.stays same going) = ap (λ (r : Run). r.number) same
on_number run o (GoesOn.moves number before behind kept going) = number

counts_in : (run : Run) (phase : Phase) → run.phase ≡ phase
    → without_counts (taken_in run phase).run.phase ≡ without_counts run.phase
counts_in run Idle e = refl
counts_in run (Cutting planned) e = refl
counts_in run (Checking c) e = handed_counts run c (next_from 0 c.tiles) refl e
counts_in run (Finished f) e = refl

pub counts_alone : (run : Run) → TakingCountsAlone run
counts_alone run = record {
  number = on_number run _ (goes_on.take run);
  phase = counts_in run run.phase refl;
}
