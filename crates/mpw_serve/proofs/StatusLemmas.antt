-- How the program ends at a fault, and its exit status if a device failed.
use Rattle.std.proofs.Common.{◌≡◌, ℕ, List, Result, Ok, Err, inl, inr, refl, sym, subst, ◌∙◌, ap}
use Rattle.std.specs.Prelude.{◌≢◌, ◌⊎◌}
use Rattle.std.specs.Result.{IsErrAnd}
use Rattle.std.specs.declared.alloc.AllocError.{AllocError}
use Rattle.mpw_wire.specs.Reading.{read_failures}
use Rattle.mpw_wire.specs.declared.fault.WireFault.{WireFault}
use Rattle.mpw_wire.specs.declared.fault.WireFault.TheVariants as wire
use Rattle.mpw_wire.specs.Writing.{fault_of}
use Rattle.mpw_settings.specs.Settings.{GiveNone, IsFaultOf}
use Rattle.mpw_settings.specs.declared.fault.SettingsFault.{SettingsFault}
use Rattle.mpw_settings.specs.declared.officer.Officer.{Officer}
use Rattle.mpw_settings.specs.declared.settings.Settings.{Settings}
use Rattle.mpw_serve.specs.declared.fault.ProgramFault.{ProgramFault}
use Rattle.mpw_serve.specs.declared.serve.End.{End}
use Rattle.mpw_serve.specs.declared.serve.Served.{Served}
use Rattle.mpw_serve.specs.Script.{fault_told}
use Rattle.mpw_serve.specs.Serving.{write_failures}
use Rattle.mpw_serve.specs.Status.{Devices, ExitsWith, ReadsCommandLine, ReadsWords, end_told, exit_of, fault_by, script_end}

-- words that give no settings
pub reads_unset : (words : List (List ℕ)) (fault : SettingsFault) (told : ProgramFault)
    → IsFaultOf (GiveNone words) fault → told ≡ fault_by fault → ReadsWords words (Err told)
reads_unset words fault told is same =
    subst (λ f. ReadsWords words (Err f)) (sym same) (ReadsWords.unset fault is)

-- no words that are text
pub reads_wordless : (fault : SettingsFault) (read : Result Settings ProgramFault)
    → IsErrAnd read (λ told. told ≡ fault_by fault) → ReadsCommandLine read
reads_wordless fault (Ok settings) is = absurd is
reads_wordless fault (Err told) same =
    subst (λ f. ReadsCommandLine (Err f)) (sym same) (ReadsCommandLine.wordless fault)

-- a device failed
abbrev pub Failed : Devices → Devices → Type 0
Failed d d' = (d'.failed_reads ≢ d.failed_reads) ⊎ (d'.failed_writes ≢ d.failed_writes)

none_failed : (d d' : Devices) (status : ℕ) → d'.failed_reads ≡ d.failed_reads
    → d'.failed_writes ≡ d.failed_writes → Failed d d' → status ≡ 3
none_failed d d' status reads writes (inl differ) = absurd (differ reads)
none_failed d d' status reads writes (inr differ) = absurd (differ writes)

wire_exits : (d d' : Devices) (ended : Result End WireFault)
    → d'.failed_reads ≡ read_failures (fault_of ended) d.failed_reads
    → d'.failed_writes ≡ write_failures (fault_of ended) d.failed_writes
    → Failed d d' → exit_of (end_told ended) ≡ 3
wire_exits d d' (Ok end) reads writes failed = none_failed d d' 0 reads writes failed
wire_exits d d' (Err wire.Read) reads writes failed = refl
wire_exits d d' (Err wire.Write) reads writes failed = refl
wire_exits d d' (Err wire.Memory) reads writes failed = none_failed d d' 5 reads writes failed

script_exits : (d d' : Devices) (came : Result Served AllocError)
    → d'.failed_reads ≡ read_failures (fault_told came) d.failed_reads
    → d'.failed_writes ≡ write_failures (fault_told came) d.failed_writes
    → Failed d d' → exit_of (script_end came) ≡ 3
script_exits d d' (Ok served) reads writes failed =
    wire_exits d d' served.ended reads writes failed
script_exits d d' (Err fault) reads writes failed = none_failed d d' 5 reads writes failed

-- if a device failed, the program exits with 3
pub failed_exits : (officer : Officer) (d d' : Devices) (status : ℕ)
    → ExitsWith officer d d' status
    → Failed d d' → status ≡ 3
failed_exits officer d d' status (ended, served, is) failed =
    is ∙ ap exit_of served.ends ∙ script_exits d d' served.came served.reads served.writes failed
