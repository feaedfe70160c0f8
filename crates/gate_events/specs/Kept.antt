-- The answer of a job: its job, and the event that hands it in.
use Rattle.gate_events.specs.declared.kept.JobAnswer.{JobAnswer}
use Rattle.gate_events.specs.declared.kept.JobAnswer.TheVariants as answers
use Rattle.mpw_events.specs.declared.event.Event.{Event}
use Rattle.mpw_events.specs.declared.event.Event.TheVariants as event
use Rattle.mpw_job.specs.declared.job.Job.{Job}
use Rattle.mpw_job.specs.declared.job.Job.TheVariants as jobs

abbrev pub job_of : JobAnswer → Job
job_of (answers.Cut a) = jobs.Cut a.job
job_of (answers.Tile a) = jobs.Tile a.job

abbrev pub event_of : JobAnswer → Event
event_of (answers.Cut a) = event.Cut a
event_of (answers.Tile a) = event.Tile a
