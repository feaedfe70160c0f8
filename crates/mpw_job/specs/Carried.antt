-- The job that an answer has.
use Rattle.mpw_job.specs.declared.job.Job.{Job}
use Rattle.mpw_job.specs.declared.job.Job.TheVariants as jobs
use Rattle.mpw_job.specs.declared.answer.Answer.{Answer}
use Rattle.mpw_job.specs.declared.answer.Answer.TheVariants as answers

abbrev pub job_of : Answer → Job
job_of (answers.Cut a) = jobs.Cut a.job
job_of (answers.Tile a) = jobs.Tile a.job
