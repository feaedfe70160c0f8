-- A connection over the desk of a store.
use Rattle.std.specs.Prelude.{◌≡◌, ◌≢◌, ◌↔◌, ◌≤◌, ◌^◌, ℕ, ◌+◌, List, ◌++◌, length, Option, None, Some, true, IsTrue, ⊤}
use Rattle.sqlite.specs.State.{HasCleanDisk, State}
use Rattle.mpw_events.specs.History.{Desk, KeptDesk, answering, kept_desk, new_desk}
use Rattle.mpw_events.specs.declared.event.Event.TheVariants as event
use Rattle.mpw_store_rows.specs.Rows.{Entry}
use Rattle.mpw_events.specs.declared.keeper.KeptChange.{KeptChange}
use Rattle.mpw_store_keeper.specs.Kept.{IsKeptIn, changes_in, rows_from}
use Rattle.mpw_stored_desk.specs.Reopening.{CantGoOn, Finds, Reopens, gone_rows}
use Rattle.mpw_store_restoring.specs.Sessions.{AreOpen, greatest_connection}
use Rattle.mpw_store_restoring.specs.Restoring.{Folds}
use Rattle.mpw_serve.specs.OwnDesk.{IsAnswer, IsGone}
use Rattle.mpw_serve.specs.Serving.{Serves}
use Rattle.mpw_serve.specs.declared.serve.Served.{Served}
use Rattle.mpw_settings.specs.declared.officer.Officer.{Officer}
use Rattle.mpw_store.specs.Changes.{IsOther}
use Rattle.mpw_store.specs.declared.fault.StoreFault.{StoreFault}
use Rattle.mpw_store.specs.declared.fault.StoreFault.TheVariants as store
use Rattle.mpw_store.specs.declared.file_fault.FileFault.TheVariants as file
use Rattle.mpw_stored_desk.specs.declared.fault.StoredFault.{StoredFault}
use Rattle.mpw_stored_desk.specs.declared.fault.StoredFault.TheVariants.{File, Stranger, Full, Wire, Closed}

-- the store's rows lead to this desk. These rows, with the ends of the sessions that they left, are just the rows of the changes that are
-- stored, and each gives its change
pub record BeginsWith (officer : Officer) (s : State) (desk : Desk) (kept : List KeptChange) :
    Type 0 where
  pub found : List Entry
  pub finds : Finds s found
  pub whole : Desk
  pub folds : Folds (new_desk officer.name officer.digest) found whole
  pub closing : List ℕ
  pub open_ones : AreOpen whole closing
  pub restarted : desk ≡ (answering whole event.Restart true).desk
  pub rows : found ++ gone_rows (length found + 1) closing ≡ rows_from 1 kept
  pub told : changes_in (rows_from 1 kept) ≡ Some kept

-- a connection of that number is served from a desk on with what its store writer has. There is a fault just if a change could not be stored,
-- and the store has just the changes that were, also after a fault, while its disk is clean and the database is open, as it is without a fault
pub record ServesOver (connection : ℕ) (d : KeptDesk)
    (input input' output output' : Option (List ℕ)) (served : Served) (fault : Option StoreFault)
    (s' : State) : Type 0 where
  pub left : KeptDesk
  pub serves : Serves (IsAnswer connection) (IsGone connection) input input' output output' d left
      served
  pub told : (fault ≡ None) ↔ (left.failures ≡ 0)
  pub stored : HasCleanDisk s' → IsTrue s'.is_open → IsKeptIn s' left.kept
  pub is_open : HasCleanDisk s' → fault ≡ None → IsTrue s'.is_open

-- a connection, whose number is above each before, is served over the store, from that desk on; and if the store writer's list is known it
-- begins so
pub record ServesStore (officer : Officer) (s s' : State)
    (input input' output output' : Option (List ℕ)) (served : Served) (fault : Option StoreFault) :
    Type 0 where
  pub desk : Desk
  pub kept : Option (List KeptChange)
  pub begins : (known : List KeptChange) → kept ≡ Some known → BeginsWith officer s desk known
  pub connection : ℕ
  pub next : connection ≡ greatest_connection desk + 1
  pub over : ServesOver connection (kept_desk desk kept 0) input input' output output' served fault
      s'

-- why no connection is served over the store: a bad row is reported only if the rows can't be there, and another officer or token only if that is the
-- first row; another database only if it is one, and that no number is left only if the greatest one was given
abbrev pub IsUnopened : Officer → State → State → StoredFault → Type 0
IsUnopened officer s s' (File (file.Store (store.Rows place))) =
    (place ≢ 1) × (HasCleanDisk s' → CantGoOn officer.name officer.digest s place)
IsUnopened officer s s' (File (file.Store (store.Sql error))) = ⊤
IsUnopened officer s s' (File (file.Store store.Memory)) = ⊤
IsUnopened officer s s' (File (file.Store store.Other)) = IsOther s
IsUnopened officer s s' (File file.Missing) = ⊥
IsUnopened officer s s' (File file.Empty) = ⊥
IsUnopened officer s s' (File file.Taken) = ⊥
IsUnopened officer s s' (File file.Shared) = ⊥
IsUnopened officer s s' (File file.BareLog) = ⊥
IsUnopened officer s s' (File file.NoFile) = ⊥
IsUnopened officer s s' (File file.Linked) = ⊥
IsUnopened officer s s' (File file.Unmade) = ⊥
IsUnopened officer s s' Stranger =
    HasCleanDisk s' → CantGoOn officer.name officer.digest s 1
IsUnopened officer s s' Full =
    (desk : Desk) × (2 ^ 32 ≤ greatest_connection desk + 1)
    × (HasCleanDisk s' → (count : ℕ) × Reopens officer.name officer.digest s s' desk count)
IsUnopened officer s s' (Wire fault) = ⊥
IsUnopened officer s s' (Closed fault) = ⊥
