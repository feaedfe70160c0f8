-- What a restart leaves unchanged, and what it undoes.
use Rattle.std.specs.Prelude.{◌≡◌, ℕ, Bool, false, List, Option, None, Some}
use Rattle.mpw_hier.specs.declared.submission.Submission.{Submission}
use Rattle.mpw_placings.specs.declared.wafer.Wafer.{Wafer}
use Rattle.mpw_rbac.specs.Policy.{Policy}
use Rattle.mpw_requests.specs.declared.run.RunRequest.TheVariants.{Markers}
use Rattle.mpw_job.specs.Jobs.{CutWindows, FoundMarkers}
use Rattle.mpw_job.specs.declared.job.CutJob.{CutJob}
use Rattle.mpw_job.specs.declared.job.Job.TheVariants as job
use Rattle.mpw_run.specs.declared.phase.Phase.{Phase}
use Rattle.mpw_run.specs.declared.phase.Phase.TheVariants.{Idle, Cutting, Checking, Finished}
use Rattle.mpw_run.specs.declared.phase.RunReply.TheVariants as reply
use Rattle.mpw_run.specs.Run.{Planned, Checks, answered}
use Rattle.mpw_run.specs.Step.{findings, restarted}
use Rattle.mpw_wafer.specs.Run.Checking.{row_of}
use Rattle.mpw_events.specs.declared.event.Event.TheVariants as event
use Rattle.mpw_events.specs.declared.event.Response.TheVariants as response
use Rattle.mpw_events.specs.Step.{State, response_of, after}
use Rattle.mpw_run_laws.specs.Calls.{is_kept}

-- What a run checks that began and was not cancelled.
abbrev pub looked_at : Phase → Option Planned
looked_at Idle = None
looked_at (Cutting planned) = Some planned
looked_at (Checking c) = Some c.planned
looked_at (Finished f) = Some f.planned

-- What an unfinished run checks.
abbrev pub worked_on : Phase → Option Planned
worked_on Idle = None
worked_on (Cutting planned) = Some planned
worked_on (Checking c) = Some c.planned
worked_on (Finished f) = None

-- The job of cutting what a run checks.
abbrev pub cutting : ℕ → Planned → CutJob
cutting number planned = record { run = number; snapshot = planned.snapshot }

-- The run's number, what it checks and, if it is finished, what it found stay as they are: everybody gets the same
-- list of markers, and the waivers are the same. No answer of a tile counts: none is accepted, a call for a
-- job of an unfinished run gets the cut, and after the windows no tile is answered.
pub record TakesBack (state behind : State) : Type 0 where
  pub number : behind.run.number ≡ state.run.number
  pub looks_at : looked_at behind.run.phase ≡ looked_at state.run.phase
  pub finds : findings behind.run.phase ≡ findings state.run.phase
  pub lists : (policy : Policy) (shelf : List Submission) (wafer : Wafer) (connection : ℕ)
      → row_of policy shelf wafer behind.run connection Markers
      ≡ row_of policy shelf wafer state.run connection Markers
  pub waivers : behind.waivers ≡ state.waivers
  pub keeps_none : (answer : FoundMarkers) (kept : Bool)
      → is_kept (response_of behind (event.Tile answer) kept) ≡ false
  pub hands_out : (planned : Planned) (worker : ℕ) (kept : Bool)
      → worked_on state.run.phase ≡ Some planned
      → response_of behind (event.Take worker) kept
      ≡ response.Run (reply.Taken (job.Cut (cutting state.run.number planned)))
  pub begins_again : (answer : CutWindows) (kept : Bool) (c : Checks)
      → (after behind (event.Cut answer) kept).run.phase ≡ Checking c → answered c.tiles ≡ 0

abbrev pub RestartsTakeBack : Type 0
RestartsTakeBack = (state : State) (kept : Bool) → TakesBack state (after state event.Restart kept)

-- This holds of no other run: whatever else takes a run back is a restart of it.
abbrev pub OnlyRestartsTakeBack : Type 0
OnlyRestartsTakeBack = (state behind : State) → TakesBack state behind
    → behind.run ≡ restarted state.run
