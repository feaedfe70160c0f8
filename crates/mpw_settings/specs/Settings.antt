-- What the words of a command line give.
use Rattle.std.specs.Prelude.{◌≡◌, ◌≢◌, ◌⊎◌, ◌↔◌, ◌*◌, ◌||◌, ℕ, Bool, true, false, IsTrue, List, [], ◌∷◌, codes, length, Option, None, Some, is_some}
use Rattle.std.specs.String.{string_bytes}
use Rattle.std.specs.declared.net.socket_addr.SocketAddr.{SocketAddr}
use Rattle.std.specs.Net.Grammar.{IsSocketText}
use Rattle.clap.specs.declared.error.kind.ErrorKind.TheVariants.{DisplayHelp}
use Rattle.clap.specs.Words.{IsAmong, Row, Text, fault_of, first_of, subcommand_of}
use Rattle.mpw_geom.specs.Name.{IsName}
use Rattle.mpw_requests.specs.Digest.{Spells}
use Rattle.mpw_text.specs.Text.{number_of}
use Rattle.mpw_settings.specs.Forms.{program_app}
use Rattle.mpw_settings.specs.declared.fault.SettingsFault.{SettingsFault}
use Rattle.mpw_settings.specs.declared.fault.SettingsFault.TheVariants.{Memory}
use Rattle.mpw_settings.specs.declared.officer.Officer.{Officer}
use Rattle.mpw_settings.specs.declared.script.Script.{Script as ScriptGiven}
use Rattle.mpw_settings.specs.declared.service.Log.{Log}
use Rattle.mpw_settings.specs.declared.service.Log.TheVariants.{Nowhere, StandardError, File}
use Rattle.mpw_settings.specs.declared.service.Service.{Service}
use Rattle.mpw_settings.specs.declared.service.Strangers.{Strangers}
use Rattle.mpw_settings.specs.declared.settings.Settings.{Settings}
use Rattle.mpw_settings.specs.declared.settings.Settings.TheVariants.{Script, Serve, Help}
use Rattle.mpw_settings.specs.declared.store.Store.{Store}

-- ---- what the row of an option gives

-- its value is the text
abbrev pub Gives : Text → List Row → Text → Type 0
Gives name rows text = first_of name rows ≡ Some text

-- its value spells the number, which lies from least to most, decimal without a sign or a leading zero
abbrev pub GivesNumber : Text → ℕ → ℕ → List Row → ℕ → Type 0
GivesNumber name least most rows number =
    (text : Text) × Gives name rows text × (number_of least most text ≡ Some number)

-- so it does, or the option has no value and the number is its default
abbrev pub GivesNumberOr : ℕ → Text → ℕ → ℕ → List Row → ℕ → Type 0
GivesNumberOr default name least most rows number =
    GivesNumber name least most rows number ⊎ ((first_of name rows ≡ None) × (number ≡ default))

-- its value writes a socket address: `IPV4:PORT` or `[IPV6]:PORT`, no host's name
abbrev pub GivesAddress : List Row → Text → Type 0
GivesAddress rows text =
    Gives (codes "listen") rows text × ((address : SocketAddr) × IsSocketText text address)

-- the flag is set
abbrev pub GivesFlag : Text → List Row → Bool → Type 0
GivesFlag name rows is_set = IsTrue is_set ↔ Gives name rows (codes "true")

-- the officer's name, and digits that spell the digest, of 32 bytes
abbrev pub GivesOfficer : List Row → Officer → Type 0
GivesOfficer rows officer =
    Gives (codes "officer") rows officer.name × IsName officer.name
    × ((digits : Text) × Gives (codes "digest") rows digits × Spells digits officer.digest)
    × (length officer.digest ≡ 32)

-- nowhere without one, to the standard error at `-`, and else to the file of that name
abbrev pub GivesLog : List Row → Log → Type 0
GivesLog rows Nowhere = first_of (codes "log") rows ≡ None
GivesLog rows StandardError = Gives (codes "log") rows (codes "-")
GivesLog rows (File file) =
    Gives (codes "log") rows (string_bytes file) × (string_bytes file ≢ codes "-")

-- the flags of a store's file are set so
pub record GivesTerms (rows : List Row) (is_existing is_new is_private : Bool) : Type 0 where
  pub existing : GivesFlag (codes "existing") rows is_existing
  pub new : GivesFlag (codes "new") rows is_new
  pub private : GivesFlag (codes "private") rows is_private

-- without a file there is no flag; and a file isn't both an existing and a new one
abbrev pub GivesStore : List Row → Option Store → Type 0
GivesStore rows None = (first_of (codes "store") rows ≡ None) × GivesTerms rows false false false
GivesStore rows (Some store) =
    Gives (codes "store") rows (string_bytes store.path)
    × GivesTerms rows store.is_existing store.is_new store.is_private
    × (IsTrue store.is_existing → IsTrue store.is_new → ⊥)

-- strangers are limited if the service goes on, or if one of their options is given
abbrev pub are_limited : Bool → List Row → Bool
are_limited is_ongoing rows =
    is_ongoing || (is_some (first_of (codes "stranger-memory") rows)
    || (is_some (first_of (codes "stranger-rate") rows)
    || is_some (first_of (codes "login-limit") rows)))

-- the limits of strangers, each by its option or its default; a megabyte has 2 ^ 20 bytes
pub record GivesLimits (rows : List Row) (strangers : Strangers) : Type 0 where
  pub megabytes : ℕ
  pub memory : GivesNumberOr 64 (codes "stranger-memory") 1 4096 rows megabytes
  pub bytes : strangers.memory ≡ megabytes * 1048576
  pub rate : GivesNumberOr 20 (codes "stranger-rate") 1 10000 rows strangers.rate
  pub login : GivesNumberOr 120 (codes "login-limit") 10 3600 rows strangers.login

abbrev pub GivesStrangers : Bool → List Row → Option Strangers → Type 0
GivesStrangers is_ongoing rows None = are_limited is_ongoing rows ≡ false
GivesStrangers is_ongoing rows (Some strangers) =
    (are_limited is_ongoing rows ≡ true) × GivesLimits rows strangers

pub record GivesScript (rows : List Row) (script : ScriptGiven) : Type 0 where
  pub officer : GivesOfficer rows script.officer
  pub store : GivesStore rows script.store

pub record GivesService (rows : List Row) (service : Service) : Type 0 where
  pub listen : GivesAddress rows (string_bytes service.listen)
  pub connections : GivesNumber (codes "connections") 1 64 rows service.connections
  pub workers : GivesNumber (codes "workers") 1 16 rows service.workers
  pub ongoing : GivesFlag (codes "ongoing") rows service.is_ongoing
  pub idle : GivesNumber (codes "idle") 1 86400 rows service.idle
  pub log : GivesLog rows service.log
  pub officer : GivesOfficer rows service.officer
  pub store : GivesStore rows service.store
  pub strangers : GivesStrangers service.is_ongoing rows service.strangers
  pub holds_run : GivesFlag (codes "hold-run") rows service.holds_run

-- nothing is given
abbrev pub GivesNone : {X : Type 0} → (X → Type 0) → Type 0
GivesNone {X} Given = (x : X) → Given x → ⊥

-- ---- what the words give

-- the subcommand is named, and its rows give the settings
abbrev pub AreOf : Option (Text × List Row) → Settings → Type 0
AreOf named (Script script) =
    (rows : List Row) × (named ≡ Some (codes "script", rows)) × GivesScript rows script
AreOf named (Serve service) =
    (rows : List Row) × (named ≡ Some (codes "serve", rows)) × GivesService rows service
AreOf named (Help text) = ⊥

-- the words have the form, they name a subcommand, and its rows give the settings; or they ask for help
abbrev pub AreGiven : Settings → List Text → Type 0
AreGiven (Script script) words =
    (fault_of program_app words ≡ []) × AreOf (subcommand_of program_app words) (Script script)
AreGiven (Serve service) words =
    (fault_of program_app words ≡ []) × AreOf (subcommand_of program_app words) (Serve service)
AreGiven (Help text) words = IsAmong DisplayHelp (fault_of program_app words)

-- the words have another form, or their subcommand gives no settings; and they don't ask for the help alone
pub record GiveNone (words : List Text) : Type 0 where
  pub unset : fault_of program_app words ≡ [] → GivesNone (AreOf (subcommand_of program_app words))
  pub unhelped : fault_of program_app words ≢ DisplayHelp ∷ []

-- a fault is out of memory, or says what is so
abbrev pub IsFaultOf : Type 0 → SettingsFault → Type 0
IsFaultOf told fault = (fault ≡ Memory) ⊎ told
