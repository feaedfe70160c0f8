-- How a script over a store ends the program.
use Rattle.std.specs.Prelude.{◌≡◌, ◌↔◌, ℕ, Option, None, Result, Err}
use Rattle.sqlite.specs.State.{State}
use Rattle.mpw_events.specs.History.{KeptDesk}
use Rattle.mpw_serve.specs.OwnDesk.{IsAnswer, IsGone}
use Rattle.mpw_serve.specs.Serving.{LeavesNothingPending, Serves, write_failures}
use Rattle.mpw_serve.specs.Status.{Devices}
use Rattle.mpw_serve.specs.declared.serve.End.{End}
use Rattle.mpw_serve.specs.declared.serve.Served.{Served}
use Rattle.mpw_settings.specs.declared.officer.Officer.{Officer}
use Rattle.mpw_store.specs.declared.fault.StoreFault.{StoreFault}
use Rattle.mpw_store.specs.declared.file_fault.FileFault.{FileFault}
use Rattle.mpw_stored_desk.specs.Serving.{IsUnopened, ServesStore}
use Rattle.mpw_stored_desk.specs.Status.{end_told, exit_of}
use Rattle.mpw_stored_desk.specs.declared.fault.StoredFault.{StoredFault}
use Rattle.mpw_stored_desk.specs.declared.fault.StoredFault.TheVariants.{File, Stranger, Full, Wire}
use Rattle.mpw_wire.specs.Reading.{read_failures}
use Rattle.mpw_wire.specs.Writing.{fault_of}
use Rattle.mpw_wire.specs.declared.fault.WireFault.TheVariants as wire

-- a connection was served over the store between these devices, and the program ends as that did
pub record EndsAsServed (officer : Officer) (s s' : State) (d d' : Devices)
    (ended : Result End StoredFault) : Type 0 where
  pub served : Served
  pub fault : Option StoreFault
  pub serves : ServesStore officer s s' d.input d'.input d.output d'.output served fault
  pub reads : d'.failed_reads ≡ read_failures (fault_of served.ended) d.failed_reads
  pub writes : d'.failed_writes ≡ write_failures (fault_of served.ended) d.failed_writes
  pub leaves : LeavesNothingPending (fault_of served.ended) d.pending d'.pending
  pub ends : ended ≡ end_told served.ended fault

-- so it was; or none is served over the store, which is reported with its reason, and the devices are as before
pub data EndsAs (officer : Officer) (s s' : State) (d d' : Devices) :
    Result End StoredFault → Type 0 where
  served : (ended : Result End StoredFault) → EndsAsServed officer s s' d d' ended
      → EndsAs officer s s' d d' ended
  unopened : (fault : StoredFault) → IsUnopened officer s s' fault → d' ≡ d
      → EndsAs officer s s' d d' (Err fault)

-- the program ended so, and its status is that
abbrev pub ExitsWith : Officer → State → State → Devices → Devices → ℕ → Type 0
ExitsWith officer s s' d d' status =
    (ended : Result End StoredFault) × EndsAs officer s s' d d' ended × (status ≡ exit_of ended)

-- so it does between devices that began so
abbrev pub EndsOver : Officer → State → State → Devices → ℕ → Type 0
EndsOver officer s s' d status = (d' : Devices) × ExitsWith officer s s' d d' status

-- how a script over a file ends the program, and with which status: the file isn't opened, or its rows lead to no desk; it is another officer's;
-- there is no room to buffer the devices; no number is left for the connection; or a connection is served between devices that had not failed, and the
-- status is that of its end, or of why a change could not be stored
pub data EndsOverFile : ℕ → Type 0 where
  unopened : (fault : FileFault) (status : ℕ) → status ≡ exit_of (Err (File fault))
      → EndsOverFile status
  unbuffered : (status : ℕ) → status ≡ exit_of (Err (Wire wire.Memory)) → EndsOverFile status
  strange : (status : ℕ) → status ≡ exit_of (Err Stranger) → EndsOverFile status
  unnumbered : (status : ℕ) → status ≡ exit_of (Err Full) → EndsOverFile status
  served : (d d' : Devices) (connection : ℕ) (begun left : KeptDesk) (served : Served)
      (fault : Option StoreFault) (status : ℕ) → d.failed_reads ≡ 0 → d.failed_writes ≡ 0
      → Serves (IsAnswer connection) (IsGone connection) d.input d'.input d.output d'.output begun
      left served
      → begun.failures ≡ 0 → ((fault ≡ None) ↔ (left.failures ≡ 0))
      → d'.failed_reads ≡ read_failures (fault_of served.ended) d.failed_reads
      → d'.failed_writes ≡ write_failures (fault_of served.ended) d.failed_writes
      → status ≡ exit_of (end_told served.ended fault) → EndsOverFile status
