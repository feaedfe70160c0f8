-- Laws of executing a run.
use Rattle.std.specs.Prelude.{◌≡◌, ⊤, ℕ, Bool, true, false, List, length, nat_lt, Option, None, Some}
use Rattle.mpw_events.specs.History.{KeptDesk, IsHandled, state_of, max_events}
use Rattle.mpw_events.specs.GoingOn.{GoesOnTo}
use Rattle.mpw_events.specs.declared.event.Event.{Event}
use Rattle.mpw_events.specs.declared.event.Event.TheVariants as event
use Rattle.mpw_events.specs.declared.event.Response.{Response}
use Rattle.mpw_job.specs.Jobs.{CutWindows}
use Rattle.mpw_job.specs.declared.job.CutJob.{CutJob}
use Rattle.mpw_requests.specs.declared.request.Request.{Request}
use Rattle.mpw_requests.specs.declared.request.Request.TheVariants as ask
use Rattle.mpw_requests.specs.declared.run.RunRequest.TheVariants.{Run}
use Rattle.mpw_laws.specs.RunLaws.{is_finished}
use Rattle.mpw_serve.specs.Working.{HandsTile, HandsTiles, WorksTiles, WorksBehind, WorksCut, WorksOff, is_accepted}

-- ---- work that never runs out of memory

-- An event that was handed in was answered, and did not run out of memory.
abbrev pub IsAnswered : Option Response → Type 0
IsAnswered None = ⊥
IsAnswered (Some response) = ⊤

-- Each event of a tile was answered.
abbrev pub TileAnswered : (d : KeptDesk) (tile : Event) (over : Bool) (d' : KeptDesk)
    → HandsTile d tile over d' → Type 0
TileAnswered d tile over d' (HandsTile.uncalled near call) = IsAnswered call.came
TileAnswered d tile over d' (HandsTile.handed ends near far call answer) =
    IsAnswered call.came × IsAnswered answer.came

abbrev pub TilesAnswered : (d : KeptDesk) (tiles : List Event) (d' : KeptDesk)
    → HandsTiles d tiles d' → Type 0
TilesAnswered d tiles d' (HandsTiles.none here) = ⊤
TilesAnswered d tiles d' (HandsTiles.last here tile rest near one) =
    TileAnswered here tile true near one
TilesAnswered d tiles d' (HandsTiles.next here tile rest near far one more) =
    TileAnswered here tile false near one × TilesAnswered near rest far more

abbrev pub DoneAnswered : (d : KeptDesk) (a : CutWindows) (d' : KeptDesk) → WorksTiles d a d'
    → Type 0
DoneAnswered d a d' WorksTiles.unworked = ⊥
DoneAnswered d a d' (WorksTiles.worked events near done handed) = TilesAnswered d events near handed

abbrev pub CutAnswered : (d : KeptDesk) (job : CutJob) (d' : KeptDesk) → WorksCut d job d' → Type 0
CutAnswered d job d' WorksCut.uncut = ⊥
CutAnswered d job d' (WorksCut.unkept a near cut) = IsAnswered cut.came
CutAnswered d job d' (WorksCut.kept a near far cut done) =
    IsAnswered cut.came × DoneAnswered near a far done

-- No job and no event of the work ran out of memory.
abbrev pub AllAnswered : (d d' : KeptDesk) → WorksOff d d' → Type 0
AllAnswered d d' (WorksOff.uncalled call near handled without) = IsAnswered call
AllAnswered d d' (WorksOff.called call job near far handled with cut) =
    IsAnswered call × CutAnswered near job far cut

-- The work is over: the run is finished, or the desk answers no event of a run any more, since it is closed
-- or its history is full.
pub data IsOver (d : KeptDesk) : Type 0 where
  finished : is_finished (state_of d.desk).run.phase ≡ true → IsOver d
  closed : (state_of d.desk).closed ≡ true → IsOver d
  full : nat_lt (length d.desk.history) max_events ≡ false → IsOver d

-- After an accepted `run`, the work goes on until it is over, unless memory runs out.
abbrev pub WorkEnds : Type 0
WorkEnds =
    (connection : ℕ) (response : Response) (before d d' : KeptDesk)
    → IsHandled before (event.Ask connection (ask.Run Run)) response d → is_accepted response ≡ true
    → (work : WorksOff d d') → AllAnswered d d' work → IsOver d'

-- ---- what the work leads to

-- Executing a run adds calls to a desk's history, and its store writer has their changes in order.
abbrev pub WorkGoesOn : Type 0
WorkGoesOn = (request : Request) (response : Response) (d d' : KeptDesk)
    → WorksBehind request response d d' → GoesOnTo d d'
