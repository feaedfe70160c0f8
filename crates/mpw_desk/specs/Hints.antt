-- What workers know of the desk apart from the model, and how that fits the run.
use Rattle.std.specs.Prelude.{◌≡◌, ◌==◌, ◌&&◌, ℕ, Bool, true, false, Option, None, Some, is_none, if◌then◌else◌}
use Rattle.mpw_requests.specs.declared.request.Request.{Request}
use Rattle.mpw_requests.specs.declared.request.Request.TheVariants as ask
use Rattle.mpw_requests.specs.declared.run.RunRequest.{RunRequest}
use Rattle.mpw_requests.specs.declared.run.RunRequest.TheVariants as run_ask
use Rattle.mpw_replies.specs.declared.reply.Reply.{Reply}
use Rattle.mpw_replies.specs.declared.reply.Reply.TheVariants as reply
use Rattle.mpw_events.specs.declared.event.Event.{Event}
use Rattle.mpw_events.specs.declared.event.Event.TheVariants as event
use Rattle.mpw_events.specs.declared.event.Response.{Response}
use Rattle.mpw_events.specs.declared.event.Response.TheVariants as response
use Rattle.mpw_run.specs.Step.{Run, taken}
use Rattle.mpw_run.specs.declared.phase.RunReply.{RunReply}
use Rattle.mpw_run.specs.declared.phase.RunReply.TheVariants as run_reply
use Rattle.mpw_desk.specs.declared.hints.Asked.{Asked}
use Rattle.mpw_desk.specs.declared.hints.Asked.TheVariants as asked
use Rattle.mpw_desk.specs.declared.hints.Hints.{Hints}
use Rattle.mpw_desk.specs.declared.hints.Waking.{Waking}
use Rattle.mpw_desk.specs.declared.hints.Waking.TheVariants as waking

-- ---- what an event asks of the run

abbrev pub asked_of_run : RunRequest → Asked
asked_of_run run_ask.Run = asked.Run
asked_of_run run_ask.Cancel = asked.Cancel
asked_of_run run_ask.Status = asked.Else
asked_of_run run_ask.Markers = asked.Else

abbrev pub asked_of : Request → Asked
asked_of (ask.Policy request) = asked.Else
asked_of ask.Whoami = asked.Else
asked_of (ask.Layout request) = asked.Else
asked_of (ask.Wafer request) = asked.Else
asked_of (ask.Run request) = asked_of_run request
asked_of (ask.SignOff request) = asked.Else
asked_of ask.Trail = asked.Else

abbrev pub asked_by : Event → Asked
asked_by (event.Ask connection request) = asked_of request
asked_by (event.Gone connection) = asked.Else
asked_by (event.Take worker) = asked.Take
asked_by (event.Cut answer) = asked.Else
asked_by (event.Tile answer) = asked.Else
asked_by event.Restart = asked.Else

-- ---- how it was answered

abbrev pub accepts : Reply → Bool
accepts (reply.Ok lines) = true
accepts (reply.Denied why) = false
accepts (reply.Refused why) = false

-- a request was accepted
abbrev pub is_accepted : Response → Bool
is_accepted (response.Told r) = accepts r
is_accepted (response.Run r) = false
is_accepted response.Gone = false
is_accepted response.Restarted = false
is_accepted response.Ended = false

abbrev pub has_none : RunReply → Bool
has_none (run_reply.Taken job) = false
has_none run_reply.NoJob = true
has_none run_reply.Kept = false
has_none run_reply.Finished = false
has_none run_reply.Stranger = false
has_none run_reply.Double = false
has_none run_reply.OldRun = false

-- the answer to a call for a job is that there is none
abbrev pub is_no_job : Response → Bool
is_no_job (response.Told r) = false
is_no_job (response.Run r) = has_none r
is_no_job response.Gone = false
is_no_job response.Restarted = false
is_no_job response.Ended = false

abbrev pub finishes : RunReply → Bool
finishes (run_reply.Taken job) = false
finishes run_reply.NoJob = false
finishes run_reply.Kept = false
finishes run_reply.Finished = true
finishes run_reply.Stranger = false
finishes run_reply.Double = false
finishes run_reply.OldRun = false

-- ---- the hints

-- a worker may find a job to take
abbrev pub may_take : Hints → Bool
may_take hints = hints.has_work && is_none hints.cutting

-- an accepted run has a job to take, a cancelled one has none, and neither is being cut
abbrev pub with_work : Bool → Hints → Hints
with_work has_work hints = record hints { has_work = has_work; cutting = None }

-- the hints after an event with that response
abbrev pub noted : Asked → Response → Hints → Hints
noted asked.Run answered hints = if is_accepted answered then with_work true hints else hints
noted asked.Cancel answered hints = if is_accepted answered then with_work false hints else hints
noted asked.Take answered hints =
    if is_no_job answered then record hints { has_work = false } else hints
noted asked.Else answered hints = hints

-- the run that is being cut, unless it is that one
abbrev pub without : ℕ → Option ℕ → Option ℕ
without run None = None
without run (Some other) = if other == run then None else Some other

-- the answer to a call for a job would be that there is none
abbrev pub HasNoJob : Run → Type 0
HasNoJob run = (taken run).reply ≡ run_reply.NoJob

-- if no worker may find a job to take, there is none, or one worker is cutting the run
abbrev pub Fit : Hints → Run → Type 0
Fit hints run = hints.has_work ≡ false → HasNoJob run

-- ---- which workers it concerns

-- one worker cuts an accepted run, and all leave a cancelled one
abbrev pub woken_by : Asked → Bool → Waking
woken_by asked.Run true = waking.OneWorker
woken_by asked.Run false = waking.Nobody
woken_by asked.Cancel true = waking.AllWorkers
woken_by asked.Cancel false = waking.Nobody
woken_by asked.Take accepted = waking.Nobody
woken_by asked.Else accepted = waking.Nobody

-- windows give tiles to all workers, and a finished run leaves them none
abbrev pub woken_by_reply : Bool → RunReply → Waking
woken_by_reply is_cut r = if is_cut then waking.AllWorkers else if finishes r then waking.AllWorkers
    else waking.Nobody

abbrev pub woken_by_job : Bool → Response → Waking
woken_by_job is_cut (response.Told r) = waking.Nobody
woken_by_job is_cut (response.Run r) = woken_by_reply is_cut r
woken_by_job is_cut response.Gone = waking.Nobody
woken_by_job is_cut response.Restarted = waking.Nobody
woken_by_job is_cut response.Ended = waking.Nobody
