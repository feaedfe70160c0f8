-- The event of a call; and what its response says: whether a request is accepted, and which job is handed
-- out.
use Rattle.std.specs.Prelude.{Bool, true, false, Option, None, Some}
use Rattle.mpw_events.specs.declared.event.Call.{Call}
use Rattle.mpw_events.specs.declared.event.Event.{Event}
use Rattle.mpw_events.specs.declared.event.Response.{Response}
use Rattle.mpw_events.specs.declared.event.Response.TheVariants as response
use Rattle.mpw_job.specs.declared.job.Job.{Job}
use Rattle.mpw_replies.specs.declared.reply.Reply.{Reply}
use Rattle.mpw_replies.specs.declared.reply.Reply.TheVariants as reply
use Rattle.mpw_run.specs.declared.phase.RunReply.{RunReply}
use Rattle.mpw_run.specs.declared.phase.RunReply.TheVariants as told

-- The event of a call.
abbrev pub event_in : Call → Event
event_in call = call.event

abbrev pub accepts : Reply → Bool
accepts (reply.Ok lines) = true
accepts (reply.Denied denial) = false
accepts (reply.Refused code) = false

-- The response is the reply to an accepted request.
abbrev pub is_accepted : Response → Bool
is_accepted (response.Told reply) = accepts reply
is_accepted (response.Run reply) = false
is_accepted response.Gone = false
is_accepted response.Restarted = false
is_accepted response.Ended = false

abbrev pub job_taken : RunReply → Option Job
job_taken (told.Taken job) = Some job
job_taken told.NoJob = None
job_taken told.Kept = None
job_taken told.Finished = None
job_taken told.Stranger = None
job_taken told.Double = None
job_taken told.OldRun = None

-- The job that a response hands out, or none.
abbrev pub job_in : Response → Option Job
job_in (response.Told reply) = None
job_in (response.Run reply) = job_taken reply
job_in response.Gone = None
job_in response.Restarted = None
job_in response.Ended = None
