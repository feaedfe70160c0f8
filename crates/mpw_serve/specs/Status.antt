-- How the program ends, and its exit status.
use Rattle.std.specs.Prelude.{◌≡◌, ℕ, Bool, List, Option, Result, Ok, Err}
use Rattle.std.specs.declared.alloc.AllocError.{AllocError}
use Rattle.mpw_wire.specs.Reading.{read_failures}
use Rattle.mpw_wire.specs.declared.fault.WireFault.{WireFault}
use Rattle.mpw_wire.specs.declared.fault.WireFault.TheVariants as wire
use Rattle.mpw_settings.specs.Settings.{AreGiven, GiveNone, IsFaultOf}
use Rattle.mpw_settings.specs.declared.officer.Officer.{Officer}
use Rattle.mpw_settings.specs.declared.fault.SettingsFault.{SettingsFault}
use Rattle.mpw_settings.specs.declared.fault.SettingsFault.TheVariants as settings
use Rattle.mpw_settings.specs.declared.settings.Settings.{Settings}
use Rattle.mpw_serve.specs.declared.fault.ProgramFault.{ProgramFault}
use Rattle.mpw_serve.specs.declared.fault.ProgramFault.TheVariants.{Usage, Wire, Memory}
use Rattle.mpw_serve.specs.declared.serve.End.{End}
use Rattle.mpw_serve.specs.declared.serve.Served.{Served}
use Rattle.mpw_serve.specs.Script.{ServesScript, fault_told}
use Rattle.mpw_serve.specs.Serving.{LeavesNothingPending, write_failures}

-- 2 if the command line is wrong, 3 if a device failed, 5 if memory ran out
abbrev pub status_of : ProgramFault → ℕ
status_of (Usage text) = 2
status_of (Wire wire.Read) = 3
status_of (Wire wire.Write) = 3
status_of (Wire wire.Memory) = 5
status_of Memory = 5

-- 0 if the connection ended
abbrev pub exit_of : Result End ProgramFault → ℕ
exit_of (Ok end) = 0
exit_of (Err fault) = status_of fault

-- some way to end has this status
abbrev pub IsStatus : ℕ → Type 0
IsStatus status = (ended : Result End ProgramFault) × (status ≡ exit_of ended)

-- a fault of the settings as a fault of the program
abbrev pub fault_by : SettingsFault → ProgramFault
fault_by (settings.Usage text) = Usage text
fault_by settings.Memory = Memory

-- ---- the command line

-- the words of the command line give the settings; or they give none, or there is no memory to read them
pub data ReadsWords (words : List (List ℕ)) : Result Settings ProgramFault → Type 0 where
  set : (settings : Settings) → AreGiven settings words → ReadsWords words (Ok settings)
  unset : (fault : SettingsFault) → IsFaultOf (GiveNone words) fault
      → ReadsWords words (Err (fault_by fault))

-- the command line had no words that are text, or there was no memory for them; or it had words
pub data ReadsCommandLine : Result Settings ProgramFault → Type 0 where
  wordless : (fault : SettingsFault) → ReadsCommandLine (Err (fault_by fault))
  worded : (words : List (List ℕ)) (read : Result Settings ProgramFault) → ReadsWords words read
      → ReadsCommandLine read

-- ---- the result of serving

-- the end of the connection, or the device that failed, as the program's fault
abbrev pub end_told : Result End WireFault → Result End ProgramFault
end_told (Ok end) = Ok end
end_told (Err fault) = Err (Wire fault)

-- how the program ends, by the result of the script
abbrev pub script_end : Result Served AllocError → Result End ProgramFault
script_end (Ok served) = end_told served.ended
script_end (Err fault) = Err Memory

-- what is known of the source and the sink: their bytes, how often each failed, and whether bytes are
-- pending
pub record Devices : Type 0 where
  pub input : Option (List ℕ)
  pub failed_reads : ℕ
  pub output : Option (List ℕ)
  pub failed_writes : ℕ
  pub pending : Bool

-- a source and a sink, by the functions that show the state of each
abbrev pub devices : {R W : Type 0} → (R → Option (List ℕ)) → (R → ℕ) → (W → Option (List ℕ))
    → (W → ℕ)
    → (W → Bool) → R → W → Devices
devices remaining read_failures contents write_failures pending reader writer = record {
  input = remaining reader;
  failed_reads = read_failures reader;
  output = contents writer;
  failed_writes = write_failures writer;
  pending = pending writer;
}

-- the script was served between these devices, and the program ends as its result says
pub record EndsAsServed (officer : Officer) (d d' : Devices) (ended : Result End ProgramFault) :
    Type 0 where
  pub came : Result Served AllocError
  pub served : ServesScript officer d.input d'.input d.output d'.output came
  pub reads : d'.failed_reads ≡ read_failures (fault_told came) d.failed_reads
  pub writes : d'.failed_writes ≡ write_failures (fault_told came) d.failed_writes
  pub leaves : LeavesNothingPending (fault_told came) d.pending d'.pending
  pub ends : ended ≡ script_end came

-- the script was served, the program ended as its result says, and this is its exit status
abbrev pub ExitsWith : Officer → Devices → Devices → ℕ → Type 0
ExitsWith officer d d' status =
    (ended : Result End ProgramFault) × EndsAsServed officer d d' ended × (status ≡ exit_of ended)
