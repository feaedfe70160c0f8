-- What the calls of a history say of its runs.
use Rattle.std.specs.Prelude.{◌≡◌, ℕ, Bool, true, false, ◌&&◌, List, Contains}
use Rattle.mpw_job.specs.Jobs.{FoundMarkers}
use Rattle.mpw_run.specs.declared.phase.RunReply.TheVariants as run_reply
use Rattle.mpw_requests.specs.declared.request.Request.TheVariants as ask
use Rattle.mpw_requests.specs.declared.run.RunRequest.TheVariants as run
use Rattle.mpw_replies.specs.declared.reply.Reply.TheVariants as reply
use Rattle.mpw_events.specs.declared.event.Call.{Call}
use Rattle.mpw_events.specs.declared.event.Event.{Event}
use Rattle.mpw_events.specs.declared.event.Event.TheVariants as event
use Rattle.mpw_events.specs.declared.event.Response.{Response}
use Rattle.mpw_events.specs.declared.event.Response.TheVariants as response

-- The event is a `run`, a `cancel`, or a restart.
abbrev pub asks_run : Event → Bool
asks_run (event.Ask connection (ask.Run run.Run)) = true
asks_run _ = false

abbrev pub asks_cancel : Event → Bool
asks_cancel (event.Ask connection (ask.Run run.Cancel)) = true
asks_cancel _ = false

abbrev pub is_restart : Event → Bool
is_restart event.Restart = true
is_restart _ = false

-- The request is accepted.
abbrev pub is_accepted : Response → Bool
is_accepted (response.Told (reply.Ok lines)) = true
is_accepted _ = false

-- The call begins a run: an accepted `run`. The call leaves the run: an accepted `cancel`.
abbrev pub begins : Call → Bool
begins call = asks_run call.event && is_accepted call.response

abbrev pub leaves : Call → Bool
leaves call = asks_cancel call.event && is_accepted call.response

-- The earlier run goes on with the call.
pub record GoesOn (call : Call) : Type 0 where
  pub same : begins call ≡ false
  pub stays : leaves call ≡ false

-- An answer was accepted: `Kept`, or `Finished` with the last tile's.
abbrev pub is_kept : Response → Bool
is_kept (response.Run run_reply.Kept) = true
is_kept (response.Run run_reply.Finished) = true
is_kept _ = false

-- The call is an answer of the tile that is accepted.
pub record KeepsTile (tile : ℕ) (call : Call) : Type 0 where
  pub answer : FoundMarkers
  pub is : call.event ≡ event.Tile answer
  pub of_tile : answer.job.tile ≡ tile
  pub kept : is_kept call.response ≡ true

-- One of the calls is.
abbrev pub WasKept : List Call → ℕ → Type 0
WasKept calls tile = (call : Call) × Contains calls call × KeepsTile tile call
