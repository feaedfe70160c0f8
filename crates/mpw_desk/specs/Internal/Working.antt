-- What a worker does next, and when it ends.
use Rattle.std.specs.Prelude.{◌≡◌, ◌<◌, ⊤, ℕ, Bool, true, false, Option, None, Some, if◌then◌else◌}
use Rattle.mpw_events.specs.declared.event.Event.{Event}
use Rattle.mpw_events.specs.declared.event.Response.{Response}
use Rattle.mpw_desk.specs.declared.worker.Pace.{Pace}
use Rattle.mpw_desk.specs.declared.worker.Pace.TheVariants as pace
use Rattle.mpw_desk.specs.declared.worker.Next.{Next}
use Rattle.mpw_desk.specs.declared.worker.Next.TheVariants.{Do, End, Pause, Rest}
use Rattle.mpw_desk.specs.declared.worker.Instruction.{Instruction}
use Rattle.mpw_desk.specs.declared.worker.Instruction.TheVariants as instruction
use Rattle.mpw_events.specs.declared.event.Response.TheVariants as response
use Rattle.mpw_job.specs.declared.job.Job.{Job}
use Rattle.mpw_job.specs.declared.job.Job.TheVariants as job
use Rattle.mpw_run.specs.declared.phase.RunReply.{RunReply}
use Rattle.mpw_run.specs.declared.phase.RunReply.TheVariants as reply
use Rattle.mpw_desk.specs.Passes.{IsLast, no_job}
use Rattle.mpw_desk.specs.Steps.{MayHandInBesides}
use Rattle.mpw_desk.specs.Values.{PassView}

-- a worker pauses exactly if memory ran out
abbrev pub after : Bool → Pace
after true = pace.GoesOn
after false = pace.Pauses

-- the run that a job cuts
abbrev pub run_cut : Job → Option ℕ
run_cut (job.Cut j) = Some j.run
run_cut (job.Tile j) = None

-- any pass may hand the event in
abbrev pub AnyMayHandIn : Event → Type 0
AnyMayHandIn event = (connection : ℕ) → MayHandInBesides connection event

-- if it ends, it does so with that response, which is a last one
abbrev pub EndsAs : Next → Response → Type 0
EndsAs (End told) response = (told ≡ response) × IsLast told
EndsAs (Do told) response = ⊤
EndsAs Pause response = ⊤
EndsAs Rest response = ⊤

-- if it ends, it does so with a last response, and with one more call if there was no job
abbrev pub EndsRightly : Next → PassView → PassView → Type 0
EndsRightly (End told) p p' = IsLast told × (told ≡ no_job → p.count < p'.count)
EndsRightly (Do told) p p' = ⊤
EndsRightly Pause p p' = ⊤
EndsRightly Rest p p' = ⊤

-- what a reply of the run means to a worker, and what a response does
abbrev pub instruction_by : RunReply → Instruction
instruction_by (reply.Taken (job.Cut j)) = instruction.Cut j.run
instruction_by (reply.Taken (job.Tile j)) = instruction.Tile
instruction_by reply.NoJob = instruction.NoJob
instruction_by reply.Kept = instruction.Else
instruction_by reply.Finished = instruction.Else
instruction_by reply.Stranger = instruction.Else
instruction_by reply.Double = instruction.Else
instruction_by reply.OldRun = instruction.Else

abbrev pub instruction_of : Response → Instruction
instruction_of (response.Told r) = instruction.Else
instruction_of (response.Run r) = instruction_by r
instruction_of response.Gone = instruction.Else
instruction_of response.Restarted = instruction.Else
instruction_of response.Ended = instruction.Ended

-- what a worker does next after this response: it does its job; if it has none, it rests, or ends if workers
-- are to end; and it ends if nothing is answered any more
abbrev pub next_of : Bool → Response → Instruction → Next
next_of stopped told (instruction.Cut run) = Do told
next_of stopped told instruction.Tile = Do told
next_of stopped told instruction.NoJob = if stopped then End told else Rest
next_of stopped told instruction.Ended = End told
next_of stopped told instruction.Else = Rest
