-- What a private desk answers: nobody else asks it while a connection is served over it.
use Rattle.std.specs.Prelude.{◌≡◌, ℕ, Bool, true, false}
use Rattle.mpw_requests.specs.declared.request.Request.{Request}
use Rattle.mpw_events.specs.declared.event.Event.TheVariants as event
use Rattle.mpw_events.specs.declared.event.Response.{Response}
use Rattle.mpw_events.specs.History.{KeptDesk, IsHandled}
use Rattle.mpw_serve.specs.Serving.{Answer}
use Rattle.mpw_serve.specs.Working.{WorksBehind}

-- the desk with its store writer gives the response and has the state after it; an accepted run is then
-- executed. If memory runs out, both are unchanged
abbrev pub IsAnswer : (connection : ℕ) → KeptDesk → Request → Answer → KeptDesk → Type 0
IsAnswer connection desk request (Answer.replied response) desk' =
    (asked : KeptDesk) × IsHandled desk (event.Ask connection request) response asked
    × WorksBehind request response asked desk'
IsAnswer connection desk request Answer.starved desk' = desk' ≡ desk

-- whether the end of the connection was handed to the desk: it was, with the desk's response; or memory ran
-- out, and the desk is unchanged
abbrev pub IsGone : (connection : ℕ) → KeptDesk → Bool → KeptDesk → Type 0
IsGone connection desk true desk' =
    (response : Response) × IsHandled desk (event.Gone connection) response desk'
IsGone connection desk false desk' = desk' ≡ desk

-- a desk with its store writer, and the connection that asks it
pub record ConnectedDesk : Type 0 where
  pub connection : ℕ
  pub desk : KeptDesk

-- the connection stays, and the desk answers its request
abbrev pub IsTold : ConnectedDesk → Request → Answer → ConnectedDesk → Type 0
IsTold own request answer own' = (own'.connection ≡ own.connection)
    × IsAnswer own.connection own.desk request answer own'.desk

-- the connection stays, and its end is handed to the desk, or isn't
abbrev pub IsParted : ConnectedDesk → Bool → ConnectedDesk → Type 0
IsParted own is_gone own' =
    (own'.connection ≡ own.connection) × IsGone own.connection own.desk is_gone own'.desk
