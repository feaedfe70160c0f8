-- A service over the desk of a store.
use Rattle.std.specs.Prelude.{◌≡◌, ◌↔◌, ℕ, List, ◌++◌, length, ⊤, Bool, true, false, Option, None, Some, Result, Ok, Err, IsTrue}
use Rattle.sqlite.specs.State.{HasCleanDisk, State}
use Rattle.mpw_desk.specs.Finished.{IsFinished}
use Rattle.mpw_desk.specs.Values.{PassView}
use Rattle.mpw_events.specs.declared.event.Call.{Call}
use Rattle.mpw_events.specs.declared.keeper.KeptChange.{KeptChange}
use Rattle.mpw_events.specs.GoingOn.{GoesOnTo, changes_of}
use Rattle.mpw_events.specs.History.{Desk, KeptDesk, state_of}
use Rattle.mpw_store_keeper.specs.Kept.{IsKeptIn, changes_in, rows_from}
use Rattle.mpw_settings.specs.declared.officer.Officer.{Officer}
use Rattle.mpw_store.specs.Changes.{HasRows, IsReady}
use Rattle.mpw_store.specs.declared.fault.StoreFault.{StoreFault}
use Rattle.mpw_stored_desk.specs.Serving.{BeginsWith}
use Rattle.mpw_stored_desk.specs.declared.fault.StoredFault.{StoredFault}
use Rattle.mpw_stored_desk.specs.declared.fault.StoredFault.TheVariants.{Closed}
use Rattle.mpw_server.specs.declared.fault.ServiceFault.{ServiceFault}
use Rattle.mpw_server.specs.declared.fault.ServiceFault.TheVariants as service

-- a desk that is shared is what the store's rows lead to; if its store writer's list is known, it begins with their changes, and no change
-- has failed to be stored
pub record BeginsOver (officer : Officer) (s : State) (begun : KeptDesk) : Type 0 where
  pub begins : (known : List KeptChange) → begun.kept ≡ Some known
      → BeginsWith officer s begun.desk known
  pub whole : begun.failures ≡ 0

-- a store has just the changes that count as stored, while the disk is clean and the database open, as it is if each change could be stored
pub record HasStored (s : State) (kept : Option (List KeptChange)) (fault : Option StoreFault) :
    Type 0 where
  pub stored : HasCleanDisk s → IsTrue s.is_open → IsKeptIn s kept
  pub is_open : HasCleanDisk s → fault ≡ None → IsTrue s.is_open

-- so has the store that a desk comes back with; if it comes back with none, nothing is known to be stored
abbrev pub ComesBack : {A : Type 0} → Option A → (A → State) → Option (List KeptChange)
    → Option StoreFault → Type 0
ComesBack None shown kept fault = kept ≡ None
ComesBack (Some conn) shown kept fault = HasStored (shown conn) kept fault

-- a desk that was shared comes back with so many calls, and with such a store: it went on by calls, which its passes made, and its writer has
-- just their changes after those before; there is a fault just if a change could not be stored
pub record Leaves (begun : KeptDesk) (calls : ℕ) (fault : Option StoreFault)
    (Comes : Option (List KeptChange) → Option StoreFault → Type 0) : Type 0 where
  pub left : KeptDesk
  pub goes : GoesOnTo begun left
  pub passes : List PassView
  pub finished : IsFinished begun left passes
  pub counted : calls ≡ length left.desk.history
  pub told : (fault ≡ None) ↔ (left.failures ≡ 0)
  pub comes : Comes left.kept fault

-- a fault that no store gave
abbrev pub IsNoStore : ServiceFault → Type 0
IsNoStore (service.Store fault) = ⊥
IsNoStore service.Memory = ⊤
IsNoStore service.Log = ⊤
IsNoStore service.Bind = ⊤
IsNoStore service.Print = ⊤
IsNoStore (service.Serve fault) = ⊤
IsNoStore service.Mismatch = ⊤
IsNoStore service.Full = ⊤
IsNoStore service.FullStore = ⊤

-- how a service ends that began with a desk: it went on by calls, which its passes made, and such a store is given back. If it ends well, each change
-- was stored; and if one could not be, that is what is reported, and nothing else of the store
pub record Ends (begun : KeptDesk) (ended : Result (Unit {0}) ServiceFault)
    (Comes : Option (List KeptChange) → Option StoreFault → Type 0) : Type 0 where
  pub left : KeptDesk
  pub goes : GoesOnTo begun left
  pub passes : List PassView
  pub finished : IsFinished begun left passes
  pub fault : Option StoreFault
  pub told : (fault ≡ None) ↔ (left.failures ≡ 0)
  pub comes : Comes left.kept fault
  pub well : ended ≡ Ok tt → fault ≡ None
  pub closed : (why : StoreFault) → fault ≡ Some why → ended ≡ Err (service.Store (Closed why))
  pub reason : (stored : StoredFault) → ended ≡ Err (service.Store stored)
      → (why : StoreFault) × (fault ≡ Some why) × (stored ≡ Closed why)

-- a service over a store doesn't end well if the store isn't handed back
abbrev pub ended_with : Bool → Result (Unit {0}) ServiceFault → Result (Unit {0}) ServiceFault
ended_with true ended = ended
ended_with false (Ok done) = Err service.Mismatch
ended_with false (Err fault) = Err fault

-- a service over a store: its rows lead to no desk, which is reported with such a reason; or the service begins with the desk that they lead to, and
-- ends
pub data EndsOver (officer : Officer) (s : State) (IsReason : StoredFault → Type 0)
    (Comes : Option (List KeptChange) → Option StoreFault → Type 0) :
    Result (Unit {0}) ServiceFault → Type 0 where
  unopened : (fault : StoredFault) → IsReason fault
      → EndsOver officer s IsReason Comes (Err (service.Store fault))
  opened : (begun : KeptDesk) (ended : Result (Unit {0}) ServiceFault) → BeginsOver officer s begun
      → Ends begun ended Comes → EndsOver officer s IsReason Comes ended

-- the rows that a service over a store leaves are just those of the changes that its store had, with the ends of the sessions that were open, and
-- then of those that the service's calls had stored; each row gives its change
pub record GoesOnStored (officer : Officer) (s s' : State) : Type 0 where
  pub desk : Desk
  pub known : List KeptChange
  pub begins : BeginsWith officer s desk known
  pub calls : List Call
  pub ready : IsReady s'
  pub rows : HasRows s'.now.trees (rows_from 1 (known ++ changes_of (state_of desk) calls))
  pub told : changes_in (rows_from 1 (known ++ changes_of (state_of desk) calls))
      ≡ Some (known ++ changes_of (state_of desk) calls)

abbrev pub StoresItsChanges : State → State → Type 0
StoresItsChanges s s' = (officer : Officer) (begun : KeptDesk)
    (ended : Result (Unit {0}) ServiceFault) → BeginsOver officer s begun
    → Ends begun ended (HasStored s') → HasCleanDisk s' → IsTrue s'.is_open
    → GoesOnStored officer s s'
