-- How a run is executed: its snapshot is cut, the jobs of its tiles are done, and their results are handed to
-- the desk in order. If memory runs out anywhere, the work ends, and the run stays as it is.
use Rattle.std.specs.Prelude.{◌≡◌, ℕ, Bool, true, false, List, [], ◌∷◌, map, Option, None, Some, ◌&&◌}
use Rattle.std.specs.List.{range_with_len}
use Rattle.mpw_events.specs.History.{KeptDesk, IsHandled}
use Rattle.mpw_events.specs.declared.event.Event.{Event}
use Rattle.mpw_events.specs.declared.event.Event.TheVariants as event
use Rattle.mpw_events.specs.declared.event.Response.{Response}
use Rattle.mpw_events.specs.declared.event.Response.TheVariants as response
use Rattle.mpw_job.specs.Carried.{job_of}
use Rattle.mpw_job.specs.Jobs.{CutWindows}
use Rattle.mpw_job.specs.Laws.{tile_job_of}
use Rattle.mpw_job.specs.declared.answer.Answer.{Answer}
use Rattle.mpw_job.specs.declared.answer.Answer.TheVariants as answers
use Rattle.mpw_job.specs.declared.job.CutJob.{CutJob}
use Rattle.mpw_job.specs.declared.job.Job.{Job}
use Rattle.mpw_job.specs.declared.job.Job.TheVariants as jobs
use Rattle.mpw_replies.specs.declared.reply.Reply.{Reply}
use Rattle.mpw_replies.specs.declared.reply.Reply.TheVariants as reply
use Rattle.mpw_requests.specs.declared.request.Request.{Request}
use Rattle.mpw_requests.specs.declared.request.Request.TheVariants as ask
use Rattle.mpw_requests.specs.declared.run.RunRequest.{RunRequest}
use Rattle.mpw_requests.specs.declared.run.RunRequest.TheVariants.{Run, Cancel, Status, Markers}
use Rattle.mpw_run.specs.Laws.{finishes}
use Rattle.mpw_run.specs.declared.phase.RunReply.{RunReply}
use Rattle.mpw_run.specs.declared.phase.RunReply.TheVariants as told
use Rattle.mpw_tiles.specs.Plan.{Tiling, tiles}
use Rattle.mpw_tiles.specs.Snapshots.{Snapshot, plan_for}
use Rattle.mpw_tiles.specs.declared.listing.Rectangle.{Rectangle}

-- The worker number that a connection uses for the jobs of its own run.
abbrev pub own_worker : ℕ
own_worker = 0

-- The event that hands in the answer of a job.
abbrev pub event_of : Answer → Event
event_of (answers.Cut a) = event.Cut a
event_of (answers.Tile a) = event.Tile a

-- The work ends with that response: the run is finished, or the desk answers nothing any more.
abbrev pub ends : Response → Bool
ends (response.Run reply) = finishes reply
ends response.Ended = true
ends _ = false

-- What the run's reply gives, or `other` for any other response.
abbrev pub by_run : {A : Type 0} → A → (RunReply → A) → Response → A
by_run other of_reply (response.Run reply) = of_reply reply
by_run other of_reply _ = other

-- The result of an event that is handed to the desk: its response, or out of memory, which leaves the desk
-- unchanged.
abbrev pub CameOf : KeptDesk → Event → Option Response → KeptDesk → Type 0
CameOf d event None d' = d' ≡ d
CameOf d event (Some response) d' = IsHandled d event response d'

-- Nothing more is handed in after that.
abbrev pub is_over : Option Response → Bool
is_over None = true
is_over (Some response) = ends response

-- ---- tiles

-- The event is handed to the desk. `over` says whether nothing more is handed in after it.
pub record HandsOver (d : KeptDesk) (e : Event) (over : Bool) (d' : KeptDesk) : Type 0 where
  pub came : Option Response
  pub handled : CameOf d e came d'
  pub ends : is_over came ≡ over

-- The desk is called for a job, and then gets the result of a tile's job. The result says whether nothing
-- more is handed in.
pub data HandsTile (d : KeptDesk) (tile : Event) : Bool → KeptDesk → Type 0 where
  uncalled : (d' : KeptDesk) → HandsOver d (event.Take own_worker) true d'
      → HandsTile d tile true d'
  handed : (over : Bool) (d' d'' : KeptDesk) → HandsOver d (event.Take own_worker) false d'
      → HandsOver d' tile over d'' → HandsTile d tile over d''

-- One tile after another, up to the last that is handed in.
pub data HandsTiles : KeptDesk → List Event → KeptDesk → Type 0 where
  none : (d : KeptDesk) → HandsTiles d [] d
  last : (d : KeptDesk) (tile : Event) (rest : List Event) (d' : KeptDesk)
      → HandsTile d tile true d' → HandsTiles d (tile ∷ rest) d'
  next : (d : KeptDesk) (tile : Event) (rest : List Event) (d' d'' : KeptDesk)
      → HandsTile d tile false d' → HandsTiles d' rest d'' → HandsTiles d (tile ∷ rest) d''

-- The jobs of the tiles of a cut, in order.
abbrev pub job_at : Snapshot → Tiling → List (List Rectangle) → (run tile : ℕ) → Job
job_at snapshot plan windows run tile = jobs.Tile (tile_job_of snapshot plan windows run tile)

abbrev pub jobs_by : CutWindows → Option Tiling → List Job
jobs_by a None = []
jobs_by a (Some plan) =
    map (job_at a.job.snapshot plan a.windows a.job.run) (range_with_len 0 (tiles plan))

abbrev pub jobs_of : CutWindows → List Job
jobs_of a = jobs_by a (plan_for a.job.snapshot)

-- The events are the answers of all tiles' jobs, in order.
pub record IsDone (a : CutWindows) (events : List Event) : Type 0 where
  pub done : List Answer
  pub jobs_are : map job_of done ≡ jobs_of a
  pub events_are : events ≡ map event_of done

-- ---- the cut

-- The cutting job that a call got.
abbrev pub cut_of : Job → Option CutJob
cut_of (jobs.Cut job) = Some job
cut_of (jobs.Tile job) = None

abbrev pub cut_of_reply : RunReply → Option CutJob
cut_of_reply (told.Taken job) = cut_of job
cut_of_reply _ = None

abbrev pub cut_of_response : Response → Option CutJob
cut_of_response response = by_run None cut_of_reply response

abbrev pub cut_of_call : Option Response → Option CutJob
cut_of_call None = None
cut_of_call (Some response) = cut_of_response response

-- The desk accepted the windows.
abbrev pub keeps : RunReply → Bool
keeps told.Kept = true
keeps _ = false

abbrev pub is_kept : Response → Bool
is_kept response = by_run false keeps response

abbrev pub was_kept : Option Response → Bool
was_kept None = false
was_kept (Some response) = is_kept response

-- The windows are handed to the desk. `kept` says whether the desk accepted them.
pub record HandsCut (d : KeptDesk) (job : CutJob) (a : CutWindows) (kept : Bool) (d' : KeptDesk) :
    Type 0 where
  pub came : Option Response
  pub handled : CameOf d (event.Cut a) came d'
  pub keeps : was_kept came ≡ kept
  pub job_is : a.job ≡ job

-- The jobs of all tiles are done, and their results are handed in; or memory runs out in a job.
pub data WorksTiles (d : KeptDesk) (a : CutWindows) : KeptDesk → Type 0 where
  unworked : WorksTiles d a d
  worked : (events : List Event) (d' : KeptDesk) → IsDone a events → HandsTiles d events d'
      → WorksTiles d a d'

-- The snapshot is cut and the windows are handed in. If the desk accepts them, the jobs of all tiles are done
-- and handed in. If memory runs out in a job, the run stays as it is.
pub data WorksCut (d : KeptDesk) (job : CutJob) : KeptDesk → Type 0 where
  uncut : WorksCut d job d
  unkept : (a : CutWindows) (d' : KeptDesk) → HandsCut d job a false d' → WorksCut d job d'
  kept : (a : CutWindows) (d' d'' : KeptDesk) → HandsCut d job a true d' → WorksTiles d' a d''
      → WorksCut d job d''

-- The desk is called for a job. If that is to cut, the run is executed.
pub data WorksOff (d : KeptDesk) : KeptDesk → Type 0 where
  uncalled : (call : Option Response) (d' : KeptDesk) → CameOf d (event.Take own_worker) call d'
      → cut_of_call call ≡ None → WorksOff d d'
  called : (call : Option Response) (job : CutJob) (d' d'' : KeptDesk)
      → CameOf d (event.Take own_worker) call d' → cut_of_call call ≡ Some job → WorksCut d' job d''
      → WorksOff d d''

-- ---- after which replies

abbrev pub begins : RunRequest → Bool
begins Run = true
begins _ = false

abbrev pub is_begin : Request → Bool
is_begin (ask.Run request) = begins request
is_begin _ = false

abbrev pub accepts : Reply → Bool
accepts (reply.Ok lines) = true
accepts (reply.Denied denial) = false
accepts (reply.Refused code) = false

abbrev pub is_accepted : Response → Bool
is_accepted (response.Told reply) = accepts reply
is_accepted _ = false

abbrev pub WorksWhere : Bool → KeptDesk → KeptDesk → Type 0
WorksWhere true d d' = WorksOff d d'
WorksWhere false d d' = d' ≡ d

-- A run that is accepted is executed before the next line is read. Another request leaves the desk unchanged.
abbrev pub WorksBehind : Request → Response → KeptDesk → KeptDesk → Type 0
WorksBehind request response d d' = WorksWhere (is_begin request && is_accepted response) d d'
