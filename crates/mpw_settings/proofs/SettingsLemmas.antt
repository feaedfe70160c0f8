-- What a parse found, by name, and what gives no settings.
use Rattle.std.proofs.Common.{◌≡◌, ◌∙◌, inl, inr, sym, subst, ℕ, length, codes, Bool, true, false, List, [], ◌∷◌, Option, Some, None, refl, ap, map, find, option_map, option_and_then, Result, Ok, Err, slice_get, if◌then◌else◌}
use Rattle.std.specs.Prelude.{◌≢◌, IfErr, is_some}
use Rattle.std.specs.Result.{IsErrAnd}
use Rattle.std.specs.Str.{bytes_eq}
use Rattle.std.specs.Borrow.{Bor}
use Rattle.std.specs.Net.Grammar.{IsSocketText, Parses}
use Rattle.std.specs.declared.net.socket_addr.SocketAddr.{SocketAddr}
use Rattle.clap.specs.declared.error.Error.{Error}
use Rattle.clap.specs.declared.error.kind.ErrorKind.TheVariants.{DisplayHelp, OutOfMemory}
use Rattle.clap.specs.declared.parser.matches.Found.{Found}
use Rattle.clap.specs.Facts.{Entry}
use Rattle.clap.specs.Walk.{row_of}
use Rattle.clap.specs.Words.{HasKind, IsAmong, Kinds, Row, Text, fault_of, first_of, first_value, kind_of, rows_of, subcommand_of}
use Rattle.mpw_requests.specs.Digest.{Spells}
use Rattle.mpw_settings.specs.Forms.{program_app}
use Rattle.mpw_settings.specs.Settings.{AreGiven, AreOf, GiveNone, GivesAddress, GivesFlag, GivesNone, GivesNumber, GivesNumberOr, GivesOfficer, GivesService, GivesStrangers, IsFaultOf, are_limited}
use Rattle.mpw_settings.specs.declared.fault.SettingsFault.{SettingsFault}
use Rattle.mpw_settings.specs.declared.settings.Settings.{Settings}
use Rattle.mpw_settings.specs.declared.settings.Settings.TheVariants.{Script, Serve, Help}

find-map : {X Y : Type 0} (f : X → Y) (p : Y → Bool) (xs : List X)
    → find p (map f xs) ≡ option_map f (find (λ x. p (f x)) xs)
find-map f p [] = refl
find-map f p (x ∷ xs) = elim (p (f x)) as
    (λ b. (if b then Some (f x) else find p (map f xs)) ≡ option_map f
    (if b then Some x else find (λ x. p (f x)) xs)) [ true ↦ refl | false ↦ find-map f p xs ]

-- the first value of an option, as text
pub first_is_value : (f : Found) (id : Text) → first_of id (rows_of f) ≡ first_value f id
first_is_value f id = ap (option_and_then (λ r. slice_get r.values 0))
    (find-map row_of (λ r. bytes_eq r.id id) f.entries.items)
    ∙ of_entry (find (λ e. bytes_eq e.0.now id) f.entries.items)
  where
    front : (xs : List (Bor Text)) → slice_get (map (λ s. s.now) xs) 0 ≡ option_map (λ s. s.now)
        (slice_get xs 0)
    front [] = refl
    front (x ∷ xs) = refl

    of_entry : (o : Option Entry) → option_and_then (λ r. slice_get r.values 0)
        (option_map row_of o)
        ≡ option_and_then (λ a. option_map (λ s. s.now) (slice_get a.vals.items 0))
        (option_map (λ e. e.1) o)
    of_entry None = refl
    of_entry (Some e) = front e.1.vals.items

same-text : (a b : Text) → Some a ≡ Some b → a ≡ b
same-text a b e = cc

-- ---- refusals

-- digits that spell no digest
pub bad-digits : (rows : List Row) (text : Text) → first_of (codes "digest") rows ≡ Some text
    → ((digest : List ℕ) → Spells text digest → length digest ≡ 32 → ⊥) → GivesNone
    (GivesOfficer rows)
bad-digits rows text found bad officer given =
    bad officer.digest (subst (λ t. Spells t officer.digest)
    (same-text given.2.0 text (sym given.2.1 ∙ found)) given.2.2) given.3

-- a text that is read as no address writes none
pub none-read : {E : Type 0} (text : Text) (result : Result SocketAddr E) (error : E)
    → result ≡ Err error → Parses IsSocketText text result
    → (address : SocketAddr) → IsSocketText text address → ⊥
none-read text result error is parsed = subst (Parses IsSocketText text) is parsed

-- and so it gives none
pub no-address : (rows : List Row) (text : Text) → first_of (codes "listen") rows ≡ Some text
    → ((address : SocketAddr) → IsSocketText text address → ⊥) → GivesNone (GivesAddress rows)
no-address rows text found none given of =
    none of.1.0 (subst (λ t. IsSocketText t of.1.0) (same-text given text (sym of.0 ∙ found)) of.1.1)

pub told-more : (first second : Type 0) (fault : SettingsFault) → (first → second)
    → IsFaultOf first fault → IsFaultOf second fault
told-more first second fault more (inl memory) = inl memory
told-more first second fault more (inr told) = inr (more told)

pub refused-more : {X : Type 0} (result : Result X SettingsFault) (first second : Type 0)
    → (first → second) → IfErr result (IsFaultOf first) → IfErr result (IsFaultOf second)
refused-more (Ok x) first second more told = tt
refused-more (Err fault) first second more told = told-more first second fault more told

-- what is refused is passed on
pub passed-on : {X : Type 0} (result : Result X SettingsFault) (fault : SettingsFault)
    (first second : Type 0) → IsErrAnd result (λ told. told ≡ fault) → (first → second)
    → IsFaultOf first fault → IfErr result (IsFaultOf second)
passed-on (Ok x) fault first second is more told = tt
passed-on (Err told) fault first second is more of =
    subst (IsFaultOf second) (sym is) (told-more first second fault more of)

-- a flag is set or isn't
pub flag_same : (name : Text) (rows : List Row) (a b : Bool) → GivesFlag name rows a
    → GivesFlag name rows b → a ≡ b
flag_same name rows true true one other = refl
flag_same name rows false false one other = refl
flag_same name rows true false one other = sym (other.1 (one.0 refl))
flag_same name rows false true one other = one.1 (other.0 refl)

-- an option with a value doesn't stand for its default
pub number_else : (default : ℕ) (name : Text) (least most : ℕ) (rows : List Row)
    → is_some (first_of name rows) ≡ true → GivesNone (GivesNumber name least most rows)
    → GivesNone (GivesNumberOr default name least most rows)
number_else default name least most rows some none number (inl given) = none number given
number_else default name least most rows some none number (inr (lacks, is)) =
    let e : false ≡ true = sym (ap is_some lacks) ∙ some in cc

limited : (is_ongoing : Bool) (rows : List Row) → are_limited is_ongoing rows ≡ true
    → are_limited is_ongoing rows ≡ false → ⊥
limited is_ongoing rows is other = let e : true ≡ false = sym is ∙ other in cc

pub no_memory : (is_ongoing : Bool) (rows : List Row) → are_limited is_ongoing rows ≡ true
    → GivesNone (GivesNumberOr 64 (codes "stranger-memory") 1 4096 rows)
    → GivesNone (GivesStrangers is_ongoing rows)
no_memory is_ongoing rows is none None given = limited is_ongoing rows is given
no_memory is_ongoing rows is none (Some s) given = none given.1.megabytes given.1.memory

pub no_rate : (is_ongoing : Bool) (rows : List Row) → are_limited is_ongoing rows ≡ true
    → GivesNone (GivesNumberOr 20 (codes "stranger-rate") 1 10000 rows)
    → GivesNone (GivesStrangers is_ongoing rows)
no_rate is_ongoing rows is none None given = limited is_ongoing rows is given
no_rate is_ongoing rows is none (Some s) given = none s.rate given.1.rate

pub no_login : (is_ongoing : Bool) (rows : List Row) → are_limited is_ongoing rows ≡ true
    → GivesNone (GivesNumberOr 120 (codes "login-limit") 10 3600 rows)
    → GivesNone (GivesStrangers is_ongoing rows)
no_login is_ongoing rows is none None given = limited is_ongoing rows is given
no_login is_ongoing rows is none (Some s) given = none s.login given.1.login

-- a service with limits that aren't given
pub unlimited : (rows : List Row) (is_ongoing : Bool) → GivesFlag (codes "ongoing") rows is_ongoing
    → GivesNone (GivesStrangers is_ongoing rows) → GivesNone (GivesService rows)
unlimited rows is_ongoing set none service given = none service.strangers
    (subst (λ o. GivesStrangers o rows service.strangers)
    (flag_same (codes "ongoing") rows service.is_ongoing is_ongoing given.ongoing set)
    given.strangers)

-- ---- the whole command line

-- the settings of the subcommand that the words name
pub given-of : (words : List Text) (settings : Settings) (named : Option (Text × List Row))
    → fault_of program_app words ≡ [] → named ≡ subcommand_of program_app words
    → AreOf named settings → AreGiven settings words
given-of words (Script script) named taken is of =
    (taken, subst (λ n. AreOf n (Script script)) is of)
given-of words (Serve service) named taken is of =
    (taken, subst (λ n. AreOf n (Serve service)) is of)
given-of words (Help text) named taken is of = absurd of

pub none-of : (words : List Text) (named : Option (Text × List Row))
    → fault_of program_app words ≡ [] → named ≡ subcommand_of program_app words
    → GivesNone (AreOf named) → GiveNone words
none-of words named taken is none = record {
  unset = λ _. subst (λ n. GivesNone (AreOf n)) is none;
  unhelped = λ help. let e : [] ≡ DisplayHelp ∷ [] = sym taken ∙ help in cc;
}

-- an error of help is among the kinds
pub help-among : (kinds : Kinds) (error : Error) → kind_of error ≡ DisplayHelp
    → HasKind kinds error → IsAmong DisplayHelp kinds
help-among kinds error is (inl memory) =
    let e : DisplayHelp ≡ OutOfMemory = sym is ∙ memory in cc
help-among kinds error is (inr among) = subst (λ k. IsAmong k kinds) is among

-- another error comes of words that give no settings and don't ask for help alone
pub other-none : (words : List Text) (error : Error)
    → (kind_of error ≢ OutOfMemory) × (kind_of error ≢ DisplayHelp)
    → HasKind (fault_of program_app words) error → GiveNone words
other-none words error other (inl memory) = absurd (other.0 memory)
other-none words error other (inr among) = record {
  unset = λ taken. absurd (subst (IsAmong (kind_of error)) taken among);
  unhelped = λ help. alone (subst (IsAmong (kind_of error)) help among);
}
  where
    alone : IsAmong (kind_of error) (DisplayHelp ∷ []) → ⊥
    alone (inl is) = other.1 is
    alone (inr never) = never
