-- What a pass knows after its critical section, in whatever order others had theirs.
use Rattle.std.specs.Prelude.{◌≡◌, ◌⊎◌, ◌≤◌, ◌<◌, ◌+◌, ℕ, Bool, [], length, Option, None, Some}
use Rattle.mpw_events.specs.declared.event.Event.{Event}
use Rattle.mpw_events.specs.declared.event.Response.{Response}
use Rattle.mpw_events.specs.declared.event.Response.TheVariants as response
use Rattle.mpw_events.specs.GoingOn.{GoesOnTo, IsEnded}
use Rattle.mpw_events.specs.History.{KeptDesk}
use Rattle.mpw_run.specs.declared.phase.RunReply.TheVariants.{NoJob}
use Rattle.mpw_desk.specs.Steps.{Records}
use Rattle.mpw_desk.specs.Values.{LockedDesk, PassView}

-- the event is recorded with its response; or the response is that the desk is closed or its history full,
-- and the pass is unchanged
abbrev pub Grows : PassView → Event → Response → PassView → Type 0
Grows p event response p' =
    ((p' ≡ p) × IsEnded event response) ⊎ ((kept : Bool) × Records event response kept p p')

-- as many passes were made as a desk has, or no number is left
abbrev pub IsSpent : LockedDesk → Type 0
IsSpent l = (1048576 ≤ l.made) ⊎ (l.next ≡ 4294967295)

-- a new pass has the next number, no receipts and no calls; the desk and its calls are unchanged
pub record IsAdmitted (l : LockedDesk) (p : PassView) (l' : LockedDesk) : Type 0 where
  pub room : (l.made < 1048576) × (l.next < 4294967295)
  pub connection : p.connection ≡ l.next
  pub receipts : p.receipts ≡ []
  pub count : p.count ≡ 0
  pub left : l' ≡ record l { next = l.next + 1; made = l.made + 1 }

-- a pass is given exactly if one is left
abbrev pub Admits : LockedDesk → Option PassView → LockedDesk → Type 0
Admits l None l' = IsSpent l × (l' ≡ l)
Admits l (Some p) l' = IsAdmitted l p l'

-- this held at the moment when the lock was held
pub record HasAdmitted (begun : KeptDesk) (first : ℕ) (given : Option PassView) : Type 0 where
  pub before : LockedDesk
  pub behind : LockedDesk
  pub goes : GoesOnTo begun before.kept
  pub from : first ≤ before.next
  pub admits : Admits before given behind

-- the number of calls of a desk, at some moment since it was shared
pub record HasCalls (begun : KeptDesk) (count : ℕ) : Type 0 where
  pub before : KeptDesk
  pub goes : GoesOnTo begun before
  pub counted : count ≡ length before.desk.history

-- a worker's calls are counted, and its receipts are unchanged
pub record Works (p p' : PassView) : Type 0 where
  pub receipts : p'.receipts ≡ p.receipts
  pub connection : p'.connection ≡ p.connection
  pub count : p.count ≤ p'.count

-- a worker's last response: that there is no job, or that nothing is answered any more
abbrev pub no_job : Response
no_job = response.Run NoJob

abbrev pub IsLast : Response → Type 0
IsLast told = (told ≡ no_job) ⊎ (told ≡ response.Ended)
