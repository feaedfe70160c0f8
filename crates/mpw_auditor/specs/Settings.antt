-- What the words of a command line ask for.
use Rattle.std.specs.Prelude.{◌≡◌, ◌≢◌, ◌⊎◌, ◌^◌, ℕ, List, [], ◌∷◌, codes, Option, None, Some}
use Rattle.std.specs.String.{string_bytes}
use Rattle.clap.specs.declared.error.kind.ErrorKind.TheVariants.{DisplayHelp}
use Rattle.clap.specs.Words.{IsAmong, Row, Text, fault_of, first_of, subcommand_of}
use Rattle.mpw_text.specs.Text.{number_of}
use Rattle.mpw_auditor.specs.Forms.{program_app}
use Rattle.mpw_auditor.specs.declared.fault.AuditFault.{AuditFault}
use Rattle.mpw_auditor.specs.declared.fault.AuditFault.TheVariants as audit
use Rattle.mpw_auditor.specs.declared.settings.Asked.{Asked}
use Rattle.mpw_auditor.specs.declared.settings.Asked.TheVariants.{Rows, Payload, Check, Help}

-- ---- what the rows of a subcommand give

-- the value of that argument is the text
abbrev pub Gives : Text → List Row → Text → Type 0
Gives name rows text = first_of name rows ≡ Some text

-- the value of `--payload` spells the number, which is that of a row
abbrev pub GivesPlace : List Row → ℕ → Type 0
GivesPlace rows place =
    (text : Text) × Gives (codes "payload") rows text × (number_of 1 (2 ^ 21) text ≡ Some place)

-- no row is named, or the one at that place
abbrev pub AsksPlace : List Row → Option ℕ → Type 0
AsksPlace rows None = first_of (codes "payload") rows ≡ None
AsksPlace rows (Some place) = GivesPlace rows place

-- neither is so
abbrev pub AsksNoPlace : List Row → Type 0
AsksNoPlace rows = (place : Option ℕ) → AsksPlace rows place → ⊥

-- the rows of a file, or with `--payload` the payload of one of them
abbrev pub AsksTrail : List Row → Asked → Type 0
AsksTrail rows (Rows file) =
    Gives (codes "file") rows (string_bytes file) × AsksPlace rows None
AsksTrail rows (Payload file place) =
    Gives (codes "file") rows (string_bytes file) × AsksPlace rows (Some place)
AsksTrail rows (Check file) = ⊥
AsksTrail rows (Help text) = ⊥

-- whether a file is sound
abbrev pub AsksStore : List Row → Asked → Type 0
AsksStore rows (Rows file) = ⊥
AsksStore rows (Payload file place) = ⊥
AsksStore rows (Check file) =
    Gives (codes "file") rows (string_bytes file) × Gives (codes "task") rows (codes "check")
AsksStore rows (Help text) = ⊥

-- nothing is asked for
abbrev pub AsksNothing : (Asked → Type 0) → Type 0
AsksNothing Asks = (asked : Asked) → Asks asked → ⊥

-- ---- what the words ask for

-- the subcommand is named, and its rows ask for that
abbrev pub AreOf : Option (Text × List Row) → Asked → Type 0
AreOf named asked = (rows : List Row)
    × (((named ≡ Some (codes "trail", rows)) × AsksTrail rows asked)
    ⊎ ((named ≡ Some (codes "store", rows)) × AsksStore rows asked))

-- the words have the form, and their subcommand asks for that; or they ask for help
abbrev pub AreGiven : Asked → List Text → Type 0
AreGiven (Rows file) words =
    (fault_of program_app words ≡ []) × AreOf (subcommand_of program_app words) (Rows file)
AreGiven (Payload file place) words =
    (fault_of program_app words ≡ [])
    × AreOf (subcommand_of program_app words) (Payload file place)
AreGiven (Check file) words =
    (fault_of program_app words ≡ []) × AreOf (subcommand_of program_app words) (Check file)
AreGiven (Help text) words = IsAmong DisplayHelp (fault_of program_app words)

-- the words have another form, or their subcommand asks for nothing; and help isn't all that is reported of them
pub record GiveNone (words : List Text) : Type 0 where
  pub unset : fault_of program_app words ≡ []
      → AsksNothing (AreOf (subcommand_of program_app words))
  pub unhelped : fault_of program_app words ≢ DisplayHelp ∷ []

-- ---- faults

-- a command line is wrong; or memory runs out
abbrev pub IsMisuse : AuditFault → Type 0
IsMisuse (audit.Usage text) = Unit {0}
IsMisuse (audit.File fault) = ⊥
IsMisuse (audit.Store fault) = ⊥
IsMisuse (audit.Unsound fault) = ⊥
IsMisuse audit.Full = ⊥
IsMisuse (audit.Log frames more) = ⊥
IsMisuse (audit.NoPayload place) = ⊥
IsMisuse audit.Output = ⊥
IsMisuse audit.Memory = Unit {0}

-- memory runs out; or the command line is wrong, and that is so
abbrev pub IsFaultOf : Type 0 → AuditFault → Type 0
IsFaultOf why fault = (fault ≡ audit.Memory) ⊎ (IsMisuse fault × why)
