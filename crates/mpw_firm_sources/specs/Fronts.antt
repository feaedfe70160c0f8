-- What is read of a file: its bytes from the first on, to its end or as far as is needed to refuse it.
use Rattle.std.specs.Prelude.{◌≡◌, ◌≢◌, ◌⊎◌, ◌+◌, ◌*◌, ◌%◌, ◌-◌, ◌^◌, ◌≤◌, ◌==◌, ◌&&◌, ◌||◌, ℕ, Bool, true, false, nat_le, nat_lt, List, [], ◌∷◌, ◌++◌, codes, take, length, Option, None, Some, if◌then◌else◌}
use Rattle.std.specs.List.{starts_with}
use Rattle.std.specs.Io.KnownBytes.{Consumes, IsAtEnd}
use Rattle.mpw_records.specs.declared.kind.TheConstants.{ENDLIB}
use Rattle.mpw_firm_sources.specs.declared.front.Content.{Content}
use Rattle.mpw_firm_sources.specs.declared.front.Content.TheVariants as content
use Rattle.mpw_firm_sources.specs.declared.front.Front.{Front}
use Rattle.mpw_firm_sources.specs.declared.record.Head.{Head}
use Rattle.mpw_firm_sources.specs.declared.record.Place.{Place}
use Rattle.mpw_firm_sources.specs.declared.record.Place.TheVariants as place

-- ---- the records of a library

-- The length and the type of a record, by its first bytes.
abbrev pub head_of : List ℕ → Option Head
head_of (high ∷ low ∷ kind ∷ type ∷ rest) =
    Some (record { length = high * 256 + low; kind = kind })
head_of _ = None

abbrev pub is_sound : ℕ → Bool
is_sound length = nat_le 4 length && (length % 2 == 0)

-- A whole record, which isn't the library's last.
pub record IsRecord (bytes : List ℕ) : Type 0 where
  pub head : Head
  pub begins : head_of bytes ≡ Some head
  pub whole : length bytes ≡ head.length
  pub sound : is_sound head.length ≡ true
  pub inner : head.kind ≢ ENDLIB

-- The text is whole records, one after another.
pub data AreRecords : List ℕ → Type 0 where
  none : AreRecords []
  longer : {text next : List ℕ} → AreRecords text → IsRecord next → AreRecords (text ++ next)

-- Whole records lead to one that has an unsound length.
pub record IsUnsound (text : List ℕ) : Type 0 where
  pub before : List ℕ
  pub rest : List ℕ
  pub head : Head
  pub joined : before ++ rest ≡ text
  pub each : AreRecords before
  pub begins : head_of rest ≡ Some head
  pub unsound : is_sound head.length ≡ false

-- ---- how far they are known

-- All bytes before the place are whole records; or no record is looked at any more.
abbrev pub IsPlace : List ℕ → Place → Type 0
IsPlace text (place.Record at) = (at ≤ length text) × AreRecords (take at text)
IsPlace text (place.Behind at) = at ≤ length text

-- From a place on, the text is unsound. It isn't if no record is looked at.
abbrev pub IsStopped : Place → List ℕ → Type 0
IsStopped (place.Record at) text = IsUnsound text
IsStopped (place.Behind at) text = ⊥

-- A place leads to the next: what stops there stops it.
abbrev pub Leads : Place → Place → Type 0
Leads from to = (text : List ℕ) → IsStopped to text → IsStopped from text

abbrev pub Reaches : Place → Option Place → List ℕ → Type 0
Reaches from None text = IsStopped from text
Reaches from (Some to) text = IsPlace text to × Leads from to

-- More bytes than a file has that is read.
abbrev pub is_endless : Place → ℕ → Bool
is_endless (place.Record at) bytes = nat_lt (2 ^ 32 - 1) bytes
is_endless (place.Behind at) bytes = nat_lt (2 ^ 32 - 1) bytes || nat_lt (2 ^ 28) (bytes - at)

-- ---- what a reader gives

-- Bytes of a reader come after those that were there.
abbrev pub Takes : Option (List ℕ) → Option (List ℕ) → (before after : List ℕ) → Type 0
Takes old new before after = (more : List ℕ) × (after ≡ before ++ more) × Consumes old new more

-- The first bytes are there; or the reader is at its end.
abbrev pub EndsFirst : Bool → Option (List ℕ) → List ℕ → Type 0
EndsFirst true new bytes = 2 ^ 17 ≤ length bytes
EndsFirst false new bytes = IsAtEnd new

-- There are more bytes than a file may have; or the reader is at its end, or the text is unsound.
abbrev pub EndsOn : Place → Bool → Option (List ℕ) → List ℕ → Type 0
EndsOn from true new bytes = 2 ^ 28 ≤ length bytes
EndsOn from false new bytes = IsAtEnd new ⊎ IsStopped from bytes

abbrev pub ReadsOn : Place → Bool → (old new : Option (List ℕ)) → (before after : List ℕ) → Type 0
ReadsOn from endless old new before after =
    Takes old new before after × EndsOn from endless new after

-- ---- what is read

-- From where on a text that begins so is read on: a library by its records, a part whatever it has, and nothing else.
abbrev pub goes_on : Content → List ℕ → Option Place
goes_on content.Deck first = None
goes_on content.Library first =
    if starts_with (λ a b. a == b) first (0 ∷ 6 ∷ 0 ∷ 2 ∷ []) then Some (place.Record 0) else None
goes_on content.Part first =
    if starts_with (λ a b. a == b) first (codes "mpw-part-") then Some (place.Behind (length first))
    else None

-- It doesn't begin so, and no more is read; or it is unsound.
abbrev pub StopsBy : Option Place → (more bytes : List ℕ) → Type 0
StopsBy None more bytes = more ≡ []
StopsBy (Some from) more bytes = IsStopped from bytes

pub record IsRefused (c : Content) (bytes : List ℕ) : Type 0 where
  pub first : List ℕ
  pub more : List ℕ
  pub joined : bytes ≡ first ++ more
  pub long : 2 ^ 17 ≤ length first
  pub why : StopsBy (goes_on c first) more bytes

-- All is read, or as much as is needed to refuse it; or it is endless.
abbrev pub IsWhole : Content → Bool → Option (List ℕ) → List ℕ → Type 0
IsWhole c true new bytes = 2 ^ 28 ≤ length bytes
IsWhole c false new bytes = IsAtEnd new ⊎ IsRefused c bytes

abbrev pub ReadsRest : Content → Bool → (old new : Option (List ℕ)) → (before after : List ℕ)
    → Type 0
ReadsRest c endless old new before after = Takes old new before after × IsWhole c endless new after

-- The bytes are the reader's first ones.
pub record IsFrontOf (c : Content) (old new : Option (List ℕ)) (front : Front) : Type 0 where
  pub read : Consumes old new front.bytes.items
  pub whole : IsWhole c front.is_endless new front.bytes.items
