-- What a parse found, by name, and what asks for nothing.
use Rattle.std.proofs.Common.{◌≡◌, ◌∙◌, inl, inr, sym, subst, Bool, true, false, List, [], ◌∷◌, Option, Some, None, refl, ap, map, find, option_map, option_and_then, Result, Ok, Err, slice_get, if◌then◌else◌}
use Rattle.std.specs.Prelude.{◌≢◌, IfErr}
use Rattle.std.specs.Result.{IsErrAnd}
use Rattle.std.specs.Str.{bytes_eq}
use Rattle.std.specs.Borrow.{Bor}
use Rattle.clap.specs.declared.error.Error.{Error}
use Rattle.clap.specs.declared.error.kind.ErrorKind.TheVariants.{DisplayHelp, OutOfMemory}
use Rattle.clap.specs.declared.parser.matches.Found.{Found}
use Rattle.clap.specs.Facts.{Entry}
use Rattle.clap.specs.Walk.{row_of}
use Rattle.clap.specs.Words.{HasKind, IsAmong, Kinds, Row, Text, fault_of, first_of, first_value, kind_of, rows_of, subcommand_of}
use Rattle.mpw_auditor.specs.Forms.{program_app}
use Rattle.mpw_auditor.specs.Settings.{AreGiven, AreOf, AsksNothing, GiveNone, IsFaultOf}
use Rattle.mpw_auditor.specs.declared.fault.AuditFault.{AuditFault}
use Rattle.mpw_auditor.specs.declared.settings.Asked.{Asked}
use Rattle.mpw_auditor.specs.declared.settings.Asked.TheVariants.{Rows, Payload, Check, Help}

find-map : {X Y : Type 0} (f : X → Y) (p : Y → Bool) (xs : List X)
    → find p (map f xs) ≡ option_map f (find (λ x. p (f x)) xs)
find-map f p [] = refl
find-map f p (x ∷ xs) = elim (p (f x)) as
    (λ b. (if b then Some (f x) else find p (map f xs)) ≡ option_map f
    (if b then Some x else find (λ x. p (f x)) xs)) [ true ↦ refl | false ↦ find-map f p xs ]

-- the first value of an option, as text
pub first_is_value : (f : Found) (id : Text) → first_of id (rows_of f) ≡ first_value f id
first_is_value f id = ap (option_and_then (λ r. slice_get r.values 0))
    (find-map row_of (λ r. bytes_eq r.id id) f.entries.items)
    ∙ of_entry (find (λ e. bytes_eq e.0.now id) f.entries.items)
  where
    front : (xs : List (Bor Text)) → slice_get (map (λ s. s.now) xs) 0 ≡ option_map (λ s. s.now)
        (slice_get xs 0)
    front [] = refl
    front (x ∷ xs) = refl

    of_entry : (o : Option Entry) → option_and_then (λ r. slice_get r.values 0)
        (option_map row_of o)
        ≡ option_and_then (λ a. option_map (λ s. s.now) (slice_get a.vals.items 0))
        (option_map (λ e. e.1) o)
    of_entry None = refl
    of_entry (Some e) = front e.1.vals.items

-- ---- refusals

pub told-more : (first second : Type 0) (fault : AuditFault) → (first → second)
    → IsFaultOf first fault → IsFaultOf second fault
told-more first second fault more (inl memory) = inl memory
told-more first second fault more (inr (misuse, told)) = inr (misuse, more told)

pub refused-more : {X : Type 0} (result : Result X AuditFault) (first second : Type 0)
    → (first → second) → IfErr result (IsFaultOf first) → IfErr result (IsFaultOf second)
refused-more (Ok x) first second more told = tt
refused-more (Err fault) first second more told = told-more first second fault more told

-- what is refused is passed on
pub passed-on : {X : Type 0} (result : Result X AuditFault) (fault : AuditFault)
    (first second : Type 0) → IsErrAnd result (λ told. told ≡ fault) → (first → second)
    → IsFaultOf first fault → IfErr result (IsFaultOf second)
passed-on (Ok x) fault first second is more told = tt
passed-on (Err told) fault first second is more of =
    subst (IsFaultOf second) (sym is) (told-more first second fault more of)

-- ---- the whole command line

-- what the subcommand that the words name asks for
pub given-of : (words : List Text) (asked : Asked) (named : Option (Text × List Row))
    → fault_of program_app words ≡ [] → named ≡ subcommand_of program_app words
    → AreOf named asked → AreGiven asked words
given-of words (Rows file) named taken is of =
    (taken, subst (λ n. AreOf n (Rows file)) is of)
given-of words (Payload file place) named taken is of =
    (taken, subst (λ n. AreOf n (Payload file place)) is of)
given-of words (Check file) named taken is of =
    (taken, subst (λ n. AreOf n (Check file)) is of)
given-of words (Help text) named taken is (rows, inl (trail, none)) = absurd none
given-of words (Help text) named taken is (rows, inr (store, none)) = absurd none

pub none-of : (words : List Text) (named : Option (Text × List Row))
    → fault_of program_app words ≡ [] → named ≡ subcommand_of program_app words
    → AsksNothing (AreOf named) → GiveNone words
none-of words named taken is none = record {
  unset = λ _. subst (λ n. AsksNothing (AreOf n)) is none;
  unhelped = λ help. let e : [] ≡ DisplayHelp ∷ [] = sym taken ∙ help in cc;
}

-- an error of help is among the kinds
pub help-among : (kinds : Kinds) (error : Error) → kind_of error ≡ DisplayHelp
    → HasKind kinds error → IsAmong DisplayHelp kinds
help-among kinds error is (inl memory) =
    let e : DisplayHelp ≡ OutOfMemory = sym is ∙ memory in cc
help-among kinds error is (inr among) = subst (λ k. IsAmong k kinds) is among

-- another error comes of words that ask for nothing and don't ask for help alone
pub other-none : (words : List Text) (error : Error)
    → (kind_of error ≢ OutOfMemory) × (kind_of error ≢ DisplayHelp)
    → HasKind (fault_of program_app words) error → GiveNone words
other-none words error other (inl memory) = absurd (other.0 memory)
other-none words error other (inr among) = record {
  unset = λ taken. absurd (subst (IsAmong (kind_of error)) taken among);
  unhelped = λ help. alone (subst (IsAmong (kind_of error)) help among);
}
  where
    alone : IsAmong (kind_of error) (DisplayHelp ∷ []) → ⊥
    alone (inl is) = other.1 is
    alone (inr never) = never
