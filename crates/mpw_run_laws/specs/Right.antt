-- Histories as desks have them: each call is legal, and each answer that was handed in is right. A worker's
-- answer is right by its type.
use Rattle.std.specs.Prelude.{◌≡◌, ℕ, List, [], ◌∷◌}
use Rattle.mpw_tiles.specs.Snapshots.{IsSnapshot}
use Rattle.mpw_job.specs.Jobs.{CutWindows, IsCutAnswer, IsTileAnswer}
use Rattle.mpw_job.specs.Layout.{AreLayoutMarkers}
use Rattle.mpw_run.specs.declared.phase.Checked.{Checked}
use Rattle.mpw_run.specs.declared.phase.Phase.TheVariants.{Finished}
use Rattle.mpw_events.specs.declared.event.Call.{Call}
use Rattle.mpw_events.specs.declared.event.Event.{Event}
use Rattle.mpw_events.specs.declared.event.Event.TheVariants as event
use Rattle.mpw_events.specs.History.{state_after, IsCall}
use Rattle.mpw_events.specs.Step.{State, new_state, after}

-- The job's snapshot is one, and the windows represent it.
pub record IsRightCut (answer : CutWindows) : Type 0 where
  pub snapshot : IsSnapshot answer.job.snapshot
  pub windows : IsCutAnswer answer

-- The answer that the event hands in is right; most events hand none in.
abbrev pub IsRight : Event → Type 0
IsRight (event.Ask connection request) = Unit {0}
IsRight (event.Gone connection) = Unit {0}
IsRight (event.Take worker) = Unit {0}
IsRight (event.Cut answer) = IsRightCut answer
IsRight (event.Tile answer) = IsTileAnswer answer
IsRight event.Restart = Unit {0}

-- A legal call that hands in nothing wrong.
pub record IsRightCall (state : State) (call : Call) : Type 0 where
  pub legal : IsCall state call
  pub right : IsRight call.event

abbrev pub IsRightHistory : State → List Call → Type 0
IsRightHistory state [] = Unit {0}
IsRightHistory state (call ∷ calls) =
    IsRightCall state call × IsRightHistory (after state call.event call.kept) calls

-- After such a history the book of a finished run is that of its snapshot's flat layout.
abbrev pub BooksAreOfTheLayout : Type 0
BooksAreOfTheLayout =
    (officer digest : List ℕ) (calls : List Call) (f : Checked)
    → IsRightHistory (new_state officer digest) calls
    → (state_after (new_state officer digest) calls).run.phase ≡ Finished f
    → AreLayoutMarkers f.planned.snapshot f.book
