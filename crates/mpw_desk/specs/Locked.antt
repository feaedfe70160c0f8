-- The invariant: what holds each time the lock is free.
use Rattle.std.specs.Prelude.{◌≡◌, ◌≤◌, ◌+◌, ℕ, List, ◌++◌, length}
use Rattle.mpw_events.specs.declared.event.Call.{Call}
use Rattle.mpw_events.specs.GoingOn.{GoesOnTo}
use Rattle.mpw_events.specs.History.{KeptDesk}
use Rattle.mpw_desk.specs.Legal.{GoesLegally}
use Rattle.mpw_desk.specs.Numbers.{AreBelow}

-- the registered calls lead from the state when the desk was shared to the present one; each is legal, none is
-- a restart, and the history had room for each; the store writer has their changes; as many calls are counted;
-- and each pass has its own part of the ledger and its own number
pub record IsLocked (begun kept : KeptDesk) (since : List Call) (begins total all left amount made : ℕ) :
    Type 0 where
  pub base : begins ≡ length begun.desk.history
  pub goes : GoesOnTo begun kept
  pub calls : kept.desk.history ≡ begun.desk.history ++ since
  pub legal : GoesLegally begun kept since
  pub counted : total ≡ length since
  pub parts : left + made ≡ all
  pub idle : amount ≡ 0
  pub enough : 1048577 ≤ all

-- the next number is the register's; it is at least the first one, which is greater than each number before
-- the desk was shared
pub record IsNumbered (begun : KeptDesk) (first registered next : ℕ) : Type 0 where
  pub registered_is : registered ≡ next
  pub from : first ≤ next
  pub above : AreBelow first begun.desk.history
