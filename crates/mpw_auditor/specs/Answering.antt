-- What is reported of a store: its rows, a row's payload, and whether it is sound; and why it isn't.
use Rattle.std.specs.Prelude.{◌≡◌, ◌≤◌, ◌+◌, ◌⊎◌, ⊤, ℕ, Bool, true, false, IsTrue, List, Option, None, Result, Ok, Err, if◌then◌else◌}
use Rattle.std.specs.Io.Iter.{u64_saturate}
use Rattle.std.specs.Io.KnownBytes.{Appends}
use Rattle.sqlite.specs.Effect.{Database}
use Rattle.sqlite.specs.declared.error.Error.{Error}
use Rattle.sqlite.specs.declared.error.Error.TheVariants.{SqliteFailure}
use Rattle.sqlite.specs.declared.error.ErrorCode.{ErrorCode}
use Rattle.sqlite.specs.declared.error.ErrorCode.TheVariants.{NotADatabase, DatabaseCorrupt, TransactionState}
use Rattle.sqlite.specs.State.{State}
use Rattle.sqlite.specs.Store.{Ghosts}
use Rattle.mpw_store_replay.specs.Replaying.{IsReplayed, IsUnreplayed}
use Rattle.mpw_store_replay.specs.declared.replayed.Replayed.{Replayed}
use Rattle.mpw_store.specs.Changes.{IsOther, IsReady, no_schema}
use Rattle.mpw_store.specs.declared.fault.StoreFault.{StoreFault}
use Rattle.mpw_store.specs.declared.fault.StoreFault.TheVariants as store
use Rattle.mpw_store.specs.declared.file_fault.FileFault.{FileFault}
use Rattle.mpw_store.specs.declared.file_fault.FileFault.TheVariants as file
use Rattle.mpw_store_rows.specs.Rows.{Entry}
use Rattle.mpw_store_listing.specs.Failing.{AcceptsAll, IsUnread}
use Rattle.mpw_store_listing.specs.Listing.{ListsStore, head_text}
use Rattle.mpw_store_listing.specs.Payload.{HasPayload}
use Rattle.mpw_auditor.specs.declared.fault.AuditFault.{AuditFault}
use Rattle.mpw_auditor.specs.declared.fault.AuditFault.TheVariants as audit

-- the head alone of a database with nothing, and else the head and the rows
abbrev pub IsListed : Database → Option (List ℕ) → Option (List ℕ) → Type 0
IsListed db old new =
    ((db.schema ≡ no_schema) × Appends old new head_text)
    ⊎ ((count : ℕ) × ListsStore db.trees count old new)

-- a database with nothing, or no row with a payload at that place
abbrev pub LacksPayload : Database → ℕ → Type 0
LacksPayload db place = (db.schema ≡ no_schema) ⊎ HasPayload db.trees place None

-- a desk accepts the rows, and a number is left for a connection after them
abbrev pub IsSound : State → Replayed → Type 0
IsSound s replayed = IsReplayed s replayed × (replayed.is_full ≡ false)

abbrev pub going_on : Replayed → Result Replayed AuditFault
going_on replayed = if replayed.is_full then Err audit.Full else Ok replayed

-- ---- faults of a store that is checked

abbrev pub is_broken_by : ErrorCode → Bool
is_broken_by NotADatabase = true
is_broken_by DatabaseCorrupt = true
is_broken_by code = false

abbrev pub is_broken : Error → Bool
is_broken (SqliteFailure code) = is_broken_by code
is_broken error = false

-- a row is none, or the file is another database, none, or a damaged one
abbrev pub is_unsound : StoreFault → Bool
is_unsound (store.Sql error) = is_broken error
is_unsound (store.Rows place) = true
is_unsound store.Memory = false
is_unsound store.Other = true

-- as one of a store that isn't sound, or of one that can't be read
abbrev pub checked : StoreFault → AuditFault
checked fault = if is_unsound fault then audit.Unsound fault else audit.Store fault

-- the same if the file isn't opened
abbrev pub unopened : FileFault → AuditFault
unopened (file.Store fault) = checked fault
unopened file.Missing = audit.File file.Missing
unopened file.Empty = audit.File file.Empty
unopened file.Taken = audit.File file.Taken
unopened file.Shared = audit.File file.Shared
unopened file.BareLog = audit.File file.BareLog
unopened file.NoFile = audit.File file.NoFile
unopened file.Linked = audit.File file.Linked
unopened file.Unmade = audit.File file.Unmade

-- ---- why nothing is reported, or not all

-- the database has something else; it is inside a transaction; or its rows can't be read
pub data IsUnanswered {S : Type 0} (accepts : ⊤ → Entry → ⊤ → Type 0) (g : Ghosts S)
    (old new : State) : StoreFault → Type 0 where
  other : IsOther old → IsUnanswered accepts g old new store.Other
  busy : IsTrue old.in_transaction
      → IsUnanswered accepts g old new (store.Sql (SqliteFailure TransactionState))
  unread : (fault : StoreFault) → IsReady old → IsUnread accepts g old new fault
      → IsUnanswered accepts g old new fault

-- why the rows aren't listed, or not all: these, or the sink failed, and so its failures are more than before
abbrev pub IsUnprinted : {S : Type 0} → Ghosts S → State → State → (failed failed' : ℕ)
    → AuditFault → Type 0
IsUnprinted g old new failed failed' (audit.Store fault) = IsUnanswered AcceptsAll g old new fault
IsUnprinted g old new failed failed' audit.Output = u64_saturate (failed + 1) ≤ failed'
IsUnprinted g old new failed failed' (audit.Usage text) = ⊥
IsUnprinted g old new failed failed' (audit.File fault) = ⊥
IsUnprinted g old new failed failed' (audit.Unsound fault) = ⊥
IsUnprinted g old new failed failed' (audit.NoPayload place) = ⊥
IsUnprinted g old new failed failed' audit.Full = ⊥
IsUnprinted g old new failed failed' (audit.Log frames more) = ⊥
IsUnprinted g old new failed failed' audit.Memory = ⊥

-- why there is no payload at a place: these, or no row there has one
abbrev pub IsUnfound : {S : Type 0} → Ghosts S → State → State → ℕ → AuditFault → Type 0
IsUnfound g old new place (audit.Store fault) = IsUnanswered AcceptsAll g old new fault
IsUnfound g old new place (audit.NoPayload row) = (row ≡ place) × LacksPayload old.now place
IsUnfound g old new place (audit.Usage text) = ⊥
IsUnfound g old new place (audit.File fault) = ⊥
IsUnfound g old new place (audit.Unsound fault) = ⊥
IsUnfound g old new place audit.Output = ⊥
IsUnfound g old new place audit.Full = ⊥
IsUnfound g old new place (audit.Log frames more) = ⊥
IsUnfound g old new place audit.Memory = ⊥

-- why a store isn't sound, or can't be checked: the rows can't be handed to a desk, or no number is left for a connection
abbrev pub IsUncounted : {S : Type 0} → Ghosts S → State → State → AuditFault → Type 0
IsUncounted g old new (audit.Unsound why) =
    (is_unsound why ≡ true) × IsUnreplayed g old new why
IsUncounted g old new (audit.Store why) =
    (is_unsound why ≡ false) × IsUnreplayed g old new why
IsUncounted g old new audit.Full =
    (replayed : Replayed) × IsReplayed old replayed × (replayed.is_full ≡ true)
IsUncounted g old new (audit.Usage text) = ⊥
IsUncounted g old new (audit.File fault) = ⊥
IsUncounted g old new (audit.Log frames more) = ⊥
IsUncounted g old new (audit.NoPayload place) = ⊥
IsUncounted g old new audit.Output = ⊥
IsUncounted g old new audit.Memory = ⊥
