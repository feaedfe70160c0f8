-- How many runs were accepted, and how often tiles were handed out.
use Rattle.std.proofs.Common.{[], ◌≡◌, ℕ, zero, suc, Bool, true, false, List, ◌∷◌, length, Option, Some, None, refl, sym, subst, ap, ◌∙◌, inl, inr, arith}
use Rattle.std.specs.Prelude.{◌==◌, ◌≤◌, ◌+◌, slice_get, slice_set, if◌then◌else◌, nat_lt}
use Rattle.std.proofs.lemmas.Option.{slice_get_past, slice_get_within, same_Some, none-some}
use Rattle.std.proofs.lemmas.Bool.{cases_eq}
use Rattle.mpw_tiles.specs.Plan.{tiles}
use Rattle.mpw_markers.specs.declared.marker.Marker.{Marker}
use Rattle.mpw_job.specs.Jobs.{CutWindows, FoundMarkers}
use Rattle.mpw_run.specs.declared.phase.Phase.{Phase}
use Rattle.mpw_run.specs.declared.phase.Phase.TheVariants.{Idle, Cutting, Checking, Finished}
use Rattle.mpw_run.specs.Run.{Tile, Checks, answered}
use Rattle.mpw_run.specs.Same.{same_snapshot, same_tile_job}
use Rattle.mpw_run.specs.Step.{Run, Offer, Outcome as RunOutcome, TakenAtMost, answered_by, raised, new_tiles, next_from, handed, taken_in, cut_in, kept, job_of_tile, tile_compared, tile_checked, tile_in, restarted_phase}
use Rattle.mpw_run.proofs.Next.{next_is}
use Rattle.mpw_run.proofs.TileLists.{same_tile, other_tile}
use Rattle.mpw_wafer.specs.Run.Checking.{RunChange, run_after}
use Rattle.mpw_wafer.specs.Run.Laws.{NothingIsHandedOut, NumbersAreCounted}
use Rattle.mpw_events.specs.declared.event.Call.{Call}
use Rattle.mpw_events.specs.declared.event.Event.{Event}
use Rattle.mpw_events.specs.declared.event.Event.TheVariants as event
use Rattle.mpw_events.specs.History.{state_after}
use Rattle.mpw_events.specs.Step.{State, new_state, event_outcome, after}
use Rattle.mpw_core.proofs.OutcomeLemmas.{holds-request, holds-step}

-- ---- tiles of a list

abbrev AllAtMost : ℕ → List Tile → Type 0
AllAtMost most xs = (k : ℕ) (x : Tile) → slice_get xs k ≡ Some x → x.taken ≤ most

all_more : (most : ℕ) (xs : List Tile) → AllAtMost most xs → AllAtMost (most + 1) xs
all_more most xs few k x at = let h = few k x at in omega (arith, h)

set_at_most : (most : ℕ) (xs : List Tile) (k : ℕ) (x y : Tile) → slice_get xs k ≡ Some x
    → y.taken ≤ most → AllAtMost most xs → AllAtMost most (slice_set xs k y)
set_at_most most xs k x y at less few j z got = elim (cases_eq j k) [
  | inl same ↦
      let is : y ≡ z = same_Some y z (sym (same_tile xs k y (slice_get_within xs k x at))
      ∙ ap (slice_get (slice_set xs k y)) (sym same) ∙ got) in
      subst (λ (t : Tile). t.taken ≤ most) is less
  | inr other ↦ few j z (sym (other_tile xs k j y other) ∙ got)
]

new_at_most : (most n : ℕ) → AllAtMost most (new_tiles n)
new_at_most most zero k x at =
    absurd (none-some x (sym (slice_get_past {X = Tile} [] k (omega arith)) ∙ at))
new_at_most most (suc n) zero x at =
    let none : 0 ≡ x.taken = ap (λ (t : Tile). t.taken) (same_Some _ x at) in omega (arith, none)
new_at_most most (suc n) (suc k) x at = new_at_most most n k x at

-- ---- the run's own events accept no run, and hand out at most one more tile

-- the number of runs and the hand-outs of each tile are at most that many
abbrev Counted : ℕ → Run → Type 0
Counted most run = (run.number ≤ most) × TakenAtMost most run.phase

abbrev Counts : ℕ → RunOutcome → Type 0
Counts most o = Counted (most + 1) o.run

one_of : (most : ℕ) (b : Bool) (x y : RunOutcome) → Counts most x → Counts most y
    → Counts most (if b then x else y)
one_of most true x y f g = f
one_of most false x y f g = g

phase_more : (most : ℕ) (phase : Phase) → TakenAtMost most phase → TakenAtMost (most + 1) phase
phase_more most Idle few = tt
phase_more most (Cutting planned) few = tt
phase_more most (Checking c) few = all_more most c.tiles few
phase_more most (Finished f) few = tt

one_more : (n most : ℕ) → n ≤ most → n ≤ most + 1
one_more n most few = omega (arith, few)

counted_more : (most : ℕ) (run : Run) → Counted most run → Counted (most + 1) run
counted_more most run few = (one_more run.number most few.0, phase_more most run.phase few.1)

handed_counts : (most : ℕ) (run : Run) (c : Checks) (o : Option Offer) → next_from 0 c.tiles ≡ o
    → Counted (most + 1) run → AllAtMost most c.tiles → Counts most (handed run c o)
handed_counts most run c None next now few = now
handed_counts most run c (Some o) next now few =
    let is = next_is 0 c.tiles o next in
    let number = is.number in
    let at : slice_get c.tiles o.number ≡ Some o.tile =
    ap (slice_get c.tiles) (omega (arith, number)) ∙ is.at in
    let less = few o.number o.tile at in (
      now.0,
      set_at_most (most + 1) c.tiles o.number o.tile (raised o.tile) at (omega (arith, less))
          (all_more most c.tiles few),
    )

take_counts : (most : ℕ) (run : Run) (phase : Phase) → Counted (most + 1) run
    → TakenAtMost most phase → Counts most (taken_in run phase)
take_counts most run Idle now few = now
take_counts most run (Cutting planned) now few = now
take_counts most run (Checking c) now few =
    handed_counts most run c (next_from 0 c.tiles) refl now few
take_counts most run (Finished f) now few = now

cut_counts : (most : ℕ) (run : Run) (answer : CutWindows) (phase : Phase)
    → Counted (most + 1) run → Counts most (cut_in run answer phase)
cut_counts most run answer Idle now = now
cut_counts most run answer (Cutting planned) now =
    one_of most (same_snapshot answer.job.snapshot planned.snapshot) _ _
    (now.0, new_at_most (most + 1) (tiles planned.plan)) now
cut_counts most run answer (Checking c) now = now
cut_counts most run answer (Finished f) now = now

kept_counts : (most : ℕ) (run : Run) (c : Checks) (xs : List Tile) → Counted (most + 1) run
    → AllAtMost (most + 1) xs → Counts most (kept run c xs)
kept_counts most run c xs now few =
    one_of most (answered xs == tiles c.planned.plan) _ _ (now.0, tt) (now.0, few)

compared_counts : (most : ℕ) (run : Run) (c : Checks) (answer : FoundMarkers) (tile : Tile)
    (a : Option (List Marker)) → slice_get c.tiles answer.job.tile ≡ Some tile
    → Counted (most + 1) run → AllAtMost (most + 1) c.tiles
    → Counts most (tile_compared run c answer tile a)
compared_counts most run c answer tile (Some m) at now few = now
compared_counts most run c answer tile None at now few =
    one_of most (same_tile_job answer.job (job_of_tile run.number c answer.job.tile)) _ _
    (kept_counts most run c (slice_set c.tiles answer.job.tile (answered_by answer.markers tile))
    now
    (set_at_most (most + 1) c.tiles answer.job.tile tile (answered_by answer.markers tile) at
    (few answer.job.tile tile at) few)) now

checked_counts : (most : ℕ) (run : Run) (c : Checks) (answer : FoundMarkers) (tile : Option Tile)
    → slice_get c.tiles answer.job.tile ≡ tile → Counted (most + 1) run
    → AllAtMost (most + 1) c.tiles → Counts most (tile_checked run c answer tile)
checked_counts most run c answer None at now few = now
checked_counts most run c answer (Some tile) at now few =
    compared_counts most run c answer tile tile.answer at now few

tile_counts : (most : ℕ) (run : Run) (answer : FoundMarkers) (phase : Phase)
    → Counted (most + 1) run → TakenAtMost (most + 1) phase
    → Counts most (tile_in run answer phase)
tile_counts most run answer Idle now few = now
tile_counts most run answer (Cutting planned) now few = now
tile_counts most run answer (Checking c) now few =
    checked_counts most run c answer (slice_get c.tiles answer.job.tile) refl now few
tile_counts most run answer (Finished f) now few =
    one_of most (nat_lt answer.job.tile (tiles f.planned.plan)) _ _ now now

restarted_counts : (most : ℕ) (phase : Phase) → TakenAtMost most (restarted_phase phase)
restarted_counts most Idle = tt
restarted_counts most (Cutting planned) = tt
restarted_counts most (Checking c) = tt
restarted_counts most (Finished f) = tt

-- ---- a call accepts at most one run, and hands out at most one tile

abbrev Few : ℕ → State → Type 0
Few most s = Counted most s.run

module _ (counted : NumbersAreCounted) (nothing : NothingIsHandedOut) where
  changed_counts : (most : ℕ) (run : Run) (change : RunChange) → Counted most run
      → Counted (most + 1) (run_after run change)
  changed_counts most run change few =
      let number = counted run change in
      let before = few.0 in (omega (arith, number, before), nothing run change (most + 1))

  few-event_outcome : (most : ℕ) (s : State) (event : Event) → Few most s
      → Few (most + 1) (event_outcome s event).state
  unfolding event_outcome
  few-event_outcome most s (event.Ask connection request) few =
      let now = counted_more most s.run few in
      holds-request (Few (most + 1)) s connection request now (λ policy. now)
      (λ asked shelf lines is. now) (λ asked wafer lines is. now)
      (λ change. changed_counts most s.run change few) (λ change. now)
  few-event_outcome most s (event.Gone connection) few = counted_more most s.run few
  few-event_outcome most s (event.Take worker) few =
      take_counts most s.run s.run.phase (counted_more most s.run few) few.1
  few-event_outcome most s (event.Cut answer) few =
      let now = counted_more most s.run few in
      one_of most (s.run.number == answer.job.run) _ _
      (cut_counts most s.run answer s.run.phase now) now
  few-event_outcome most s (event.Tile answer) few =
      let now = counted_more most s.run few in
      one_of most (s.run.number == answer.job.run) _ _
      (tile_counts most s.run answer s.run.phase now now.1) now
  few-event_outcome most s event.Restart few =
      ((counted_more most s.run few).0, restarted_counts (most + 1) s.run.phase)

  few-step : (most : ℕ) (s : State) (event : Event) (was : Bool) → Few most s
      → Few (most + 1) (after s event was)
  few-step most s event was few =
      holds-step (Few (most + 1)) (λ t held. held) (λ t entries held. held) s event was
      (counted_more most s.run few) (few-event_outcome most s event few)

  few-calls : (most : ℕ) (s : State) (calls : List Call) → Few most s
      → Few (most + length calls) (state_after s calls)
  few-calls most s [] few =
      subst (λ n. Few n s) (let e : most ≡ most + 0 = omega arith in e) few
  few-calls most s (call ∷ calls) few =
      subst (λ n. Few n (state_after s (call ∷ calls)))
      (let e : (most + 1) + length calls ≡ most + length (call ∷ calls) = omega arith in e)
      (few-calls (most + 1) (after s call.event call.kept) calls
      (few-step most s call.event call.kept few))

  pub few-history : (officer digest : List ℕ) (calls : List Call)
      → Counted (length calls) (state_after (new_state officer digest) calls).run
  unfolding new_state
  few-history officer digest calls =
      subst (λ n. Few n (state_after (new_state officer digest) calls))
      (let e : 0 + length calls ≡ length calls = omega arith in e)
      (few-calls 0 (new_state officer digest) calls (omega arith, tt))
