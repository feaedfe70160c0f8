-- What a restart leaves unchanged, and what it undoes.
use Rattle.std.proofs.Common.{◌≡◌, ◌∙◌, ℕ, Bool, true, false, List, Option, Some, refl, sym, ap, None}
use Rattle.std.proofs.lemmas.Option.{none-some, same_Some}
use Rattle.mpw_hier.specs.declared.submission.Submission.{Submission}
use Rattle.mpw_placings.specs.declared.wafer.Wafer.{Wafer}
use Rattle.mpw_rbac.specs.Policy.{Policy}
use Rattle.mpw_requests.specs.declared.run.RunRequest.TheVariants.{Markers}
use Rattle.mpw_tiles.specs.Plan.{tiles}
use Rattle.mpw_job.specs.Jobs.{CutWindows, FoundMarkers}
use Rattle.mpw_job.specs.declared.job.Job.TheVariants as job
use Rattle.mpw_run.specs.declared.phase.Checked.{Checked}
use Rattle.mpw_run.specs.declared.phase.Phase.{Phase}
use Rattle.mpw_run.specs.declared.phase.Phase.TheVariants.{Idle, Cutting, Checking, Finished}
use Rattle.mpw_run.specs.declared.phase.RunReply.TheVariants as reply
use Rattle.mpw_run.specs.Run.{Planned, Checks, answered}
use Rattle.mpw_run.specs.Step as machine
use Rattle.mpw_run.specs.Step.{findings, restarted_phase}
use Rattle.mpw_run.proofs.TileLists.{new_answered}
use Rattle.mpw_replies.specs.Rows.{listing, needed}
use Rattle.mpw_trail.specs.declared.verdict.Code.TheVariants as code
use Rattle.mpw_wafer.specs.Run.Checking.{checked_lines, row_of}
use Rattle.mpw_events.specs.declared.event.Event.TheVariants as event
use Rattle.mpw_events.specs.declared.event.Response.TheVariants as response
use Rattle.mpw_events.specs.Step.{State, after, event_outcome, of_run, response_of, step}
use Rattle.mpw_run_laws.specs.Calls.{is_kept}
use Rattle.mpw_run_laws.specs.Restarts.{looked_at, worked_on, cutting, TakesBack, RestartsTakeBack, OnlyRestartsTakeBack}
use Rattle.mpw_run_laws.proofs.Moves.{Cuts, Answered, takes, cuts, answers}
use Rattle.mpw_run_laws.proofs.Calls.{Settled, settled, unfinished, taken_goes, cut_goes, run_of, told_of}
use Rattle.mpw_run_laws.proofs.Counted.{kept_as}

-- ---- phases

looks_same : (phase : Phase) → looked_at (restarted_phase phase) ≡ looked_at phase
looks_same Idle = refl
looks_same (Cutting planned) = refl
looks_same (Checking c) = refl
looks_same (Finished f) = refl

finds_same : (phase : Phase) → findings (restarted_phase phase) ≡ findings phase
finds_same Idle = refl
finds_same (Cutting planned) = refl
finds_same (Checking c) = refl
finds_same (Finished f) = refl

cut_again : (phase : Phase) (planned : Planned) → worked_on phase ≡ Some planned
    → restarted_phase phase ≡ Cutting planned
cut_again Idle planned e = absurd (none-some planned e)
cut_again (Cutting p) planned e = ap Cutting (same_Some p planned e)
cut_again (Checking c) planned e = ap Cutting (same_Some c.planned planned e)
cut_again (Finished f) planned e = absurd (none-some planned e)

abbrev checks_in : Phase → Checks → Checks
checks_in Idle d = d
checks_in (Cutting planned) d = d
checks_in (Checking c) d = c
checks_in (Finished f) d = d

unchecked : (phase : Phase) (c : Checks) → restarted_phase phase ≡ Checking c → ⊥
unchecked Idle c e = cc
unchecked (Cutting planned) c e = cc
unchecked (Checking d) c e = cc
unchecked (Finished f) c e = cc

lists_by : (policy : Policy) (shelf : List Submission) (wafer : Wafer) (a b : machine.Run)
    (connection : ℕ) → findings a.phase ≡ findings b.phase
    → row_of policy shelf wafer a connection Markers ≡ row_of policy shelf wafer b connection Markers
lists_by policy shelf wafer a b connection e =
    ap (λ (o : Option Checked). listing (checked_lines policy connection)
    (needed code.NotFinished o)) e

-- ---- events after it

module _ (s : State) (none : (c : Checks) → s.run.phase ≡ Checking c → ⊥) where
  pub unkept : (answer : FoundMarkers) (kept : Bool)
      → is_kept (response_of s (event.Tile answer) kept) ≡ false
  unfolding event_outcome
  unkept answer kept =
      by (settled s (event.Tile answer) kept (of_run s (machine.tile_answered s.run answer)) refl)
    where
      reply_by : Answered s.run answer (machine.tile_answered s.run answer)
          → is_kept (response.Run (machine.tile_answered s.run answer).reply) ≡ false
      reply_by (Answered.stays same k f) =
          kept_as (machine.tile_answered s.run answer).reply ∙ k
      reply_by (Answered.more c x h r same ne) = absurd (none c h.phase)
      reply_by (Answered.last c x h r same all) = absurd (none c h.phase)

      by : Settled s (event.Tile answer) kept (of_run s (machine.tile_answered s.run answer))
          → is_kept (response_of s (event.Tile answer) kept) ≡ false
      by (Settled.as_wanted q) = ap is_kept (told_of q) ∙ reply_by (answers s.run answer)
      by (Settled.closes q c) = ap is_kept (told_of q)

  pub open_again : (answer : CutWindows) (kept : Bool) (c : Checks)
      → (after s (event.Cut answer) kept).run.phase ≡ Checking c → answered c.tiles ≡ 0
  unfolding event_outcome
  open_again answer kept c e = by (cuts s.run answer)
    where
      now : (after s (event.Cut answer) kept).run ≡ (machine.cut_answered s.run answer).run
      now = run_of (unfinished s (event.Cut answer) kept (machine.cut_answered s.run answer) refl
          (cut_goes s.run answer _ (cuts s.run answer)))

      by : Cuts s.run answer (machine.cut_answered s.run answer) → answered c.tiles ≡ 0
      by (Cuts.stays same f) =
          absurd (none c (ap (λ (r : machine.Run). r.phase) (sym (now ∙ same)) ∙ e))
      by (Cuts.begins planned p own same f) =
          let here = sym e ∙ ap (λ (r : machine.Run). r.phase) (now ∙ same) in
          ap (λ (p : Phase). answered (checks_in p c).tiles) here
          ∙ new_answered (tiles planned.plan)

handed_out : (s : State) (planned : Planned) (worker : ℕ) (kept : Bool)
    → s.run.phase ≡ Cutting planned
    → response_of s (event.Take worker) kept
    ≡ response.Run (reply.Taken (job.Cut (cutting s.run.number planned)))
unfolding event_outcome
handed_out s planned worker kept e =
    told_of (unfinished s (event.Take worker) kept (machine.taken s.run) refl
    (taken_goes s.run _ (takes s.run)))
    ∙ ap (λ (p : Phase). response.Run (machine.taken_in s.run p).reply) e

-- ---- the restart

restart_leaves : (s : State) (kept : Bool)
    → (after s event.Restart kept).run ≡ machine.restarted s.run
unfolding step event_outcome
restart_leaves s kept = refl

restart_keeps : (s : State) (kept : Bool) → (after s event.Restart kept).waivers ≡ s.waivers
unfolding step event_outcome
restart_keeps s kept = refl

pub takes_back : RestartsTakeBack
takes_back s kept = record {
  number = ap (λ (r : machine.Run). r.number) run_is;
  looks_at = ap looked_at phase_is ∙ looks_same s.run.phase;
  finds = ap findings phase_is ∙ finds_same s.run.phase;
  lists = λ policy shelf wafer connection. lists_by policy shelf wafer behind.run s.run connection
      (ap findings phase_is ∙ finds_same s.run.phase);
  waivers = restart_keeps s kept;
  keeps_none = unkept behind none;
  hands_out = λ planned worker k e.
      handed_out behind planned worker k (phase_is ∙ cut_again s.run.phase planned e)
      ∙ ap (λ (n : ℕ). response.Run (reply.Taken (job.Cut (cutting n planned))))
      (ap (λ (r : machine.Run). r.number) run_is);
  begins_again = open_again behind none;
}
  where
    behind : State
    behind = after s event.Restart kept

    run_is : behind.run ≡ machine.restarted s.run
    run_is = restart_leaves s kept

    phase_is : behind.run.phase ≡ restarted_phase s.run.phase
    phase_is = ap (λ (r : machine.Run). r.phase) run_is

    none : (c : Checks) → behind.run.phase ≡ Checking c → ⊥
    none c e = unchecked s.run.phase c (sym phase_is ∙ e)

-- ---- nothing else

handed_no_cut : (r : machine.Run) (c : Checks) (number : ℕ) (planned : Planned)
    (o : Option machine.Offer)
    → response.Run (machine.handed r c o).reply
    ≡ response.Run (reply.Taken (job.Cut (cutting number planned))) → ⊥
handed_no_cut r c number planned None e = cc
handed_no_cut r c number planned (Some offer) e = cc

-- a call for a job that gets the cut is of a run in `Cutting`
cuts_only : (r : machine.Run) (number : ℕ) (planned : Planned) (phase : Phase)
    → response.Run (machine.taken_in r phase).reply
    ≡ response.Run (reply.Taken (job.Cut (cutting number planned)))
    → (q : Planned) × (phase ≡ Cutting q)
cuts_only r number planned Idle e = absurd cc
cuts_only r number planned (Cutting q) e = (q, refl)
cuts_only r number planned (Checking c) e =
    absurd (handed_no_cut r c number planned (machine.next_from 0 c.tiles) e)
cuts_only r number planned (Finished f) e = absurd cc

taken_reply : (s : State) (worker : ℕ) (kept : Bool)
    → response_of s (event.Take worker) kept ≡ response.Run (machine.taken s.run).reply
unfolding event_outcome
taken_reply s worker kept = told_of (unfinished s (event.Take worker) kept (machine.taken s.run)
    refl (taken_goes s.run _ (takes s.run)))

-- a run in `Cutting` that checks that
cut_phase : (phase : Phase) (q planned : Planned) → phase ≡ Cutting q
    → looked_at phase ≡ Some planned → phase ≡ Cutting planned
cut_phase phase q planned e looks =
    e ∙ ap Cutting (same_Some q planned (ap looked_at (sym e) ∙ looks))

idle_phase : (phase : Phase) → looked_at phase ≡ None → phase ≡ Idle
idle_phase Idle e = refl
idle_phase (Cutting planned) e = absurd (none-some planned (sym e))
idle_phase (Checking c) e = absurd (none-some c.planned (sym e))
idle_phase (Finished f) e = absurd (none-some f.planned (sym e))

done_phase : (phase : Phase) (f : Checked) → findings phase ≡ Some f → phase ≡ Finished f
done_phase Idle f e = absurd (none-some f e)
done_phase (Cutting planned) f e = absurd (none-some f e)
done_phase (Checking c) f e = absurd (none-some f e)
done_phase (Finished g) f e = ap Finished (same_Some g f e)

cut_behind : (state behind : State) (planned : Planned) → TakesBack state behind
    → worked_on state.run.phase ≡ Some planned → looked_at state.run.phase ≡ Some planned
    → behind.run.phase ≡ Cutting planned
cut_behind state behind planned t works looks =
    let q = cuts_only behind.run state.run.number planned behind.run.phase
    (sym (taken_reply behind 0 true) ∙ t.hands_out planned 0 true works) in
    cut_phase behind.run.phase q.0 planned q.1 (t.looks_at ∙ looks)

phase_behind : (state behind : State) (phase : Phase) → state.run.phase ≡ phase
    → TakesBack state behind → behind.run.phase ≡ restarted_phase phase
phase_behind state behind Idle e t =
    idle_phase behind.run.phase (t.looks_at ∙ ap looked_at e)
phase_behind state behind (Cutting planned) e t =
    cut_behind state behind planned t (ap worked_on e) (ap looked_at e)
phase_behind state behind (Checking c) e t =
    cut_behind state behind c.planned t (ap worked_on e) (ap looked_at e)
phase_behind state behind (Finished f) e t =
    done_phase behind.run.phase f (t.finds ∙ ap findings e)

pub only_restarts : OnlyRestartsTakeBack
only_restarts state behind t =
    let phase : behind.run.phase ≡ restarted_phase state.run.phase =
    phase_behind state behind state.run.phase refl t in
    let first : ℕ → machine.Run = λ n. record { number = n; phase = behind.run.phase } in
    let second : Phase → machine.Run = λ p. record { number = state.run.number; phase = p } in
    ap first t.number ∙ ap second phase
