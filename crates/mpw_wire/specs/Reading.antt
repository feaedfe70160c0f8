-- What reading a request does to a source. A line has at most 4096 bytes, and ends with a line feed or the
-- end of the input.
use Rattle.std.specs.Prelude.{◌≡◌, ◌≢◌, ◌<◌, ◌≤◌, ◌+◌, ◌⊎◌, ℕ, List, [], ◌∷◌, ◌++◌, length, All, Option, None, Some}
use Rattle.std.specs.Io.KnownBytes.{Consumes, IsAtEnd}
use Rattle.std.specs.Io.Iter.{u64_saturate}
use Rattle.mpw_wire.specs.declared.fault.WireFault.{WireFault}
use Rattle.mpw_wire.specs.declared.fault.WireFault.TheVariants.{Read, Write, Memory}
use Rattle.mpw_wire.specs.declared.read.Asked.{Asked}
use Rattle.mpw_wire.specs.declared.read.Asked.TheVariants as asked
use Rattle.mpw_requests.specs.declared.request.Request.{Request}
use Rattle.mpw_requests.specs.declared.parts.Upload.{Upload}
use Rattle.mpw_requests.specs.Parts.{uploaded}
use Rattle.mpw_wire.specs.declared.request.LineAsk.{LineAsk}
use Rattle.mpw_wire.specs.declared.request.LineAsk.TheVariants as ask
use Rattle.mpw_wire.specs.Request.{ask_of}

-- the greatest number of bytes before a line feed
abbrev pub max_line : ℕ
max_line = 4096

-- no byte of them is a line feed
abbrev pub IsUnbroken : List ℕ → Type 0
IsUnbroken bytes = All (λ byte. byte ≢ 0x0A) bytes

-- these bytes and a line feed are taken off the front; or these bytes are the last, at least one
abbrev pub TakesLine : Option (List ℕ) → Option (List ℕ) → List ℕ → Type 0
TakesLine old new line =
    IsUnbroken line × (length line ≤ max_line)
    × (Consumes old new (line ++ 0x0A ∷ [])
    ⊎ ((1 ≤ length line) × Consumes old new line × IsAtEnd new))

-- more bytes than a line may have are taken off the front
abbrev pub TakesLong : Option (List ℕ) → Option (List ℕ) → Type 0
TakesLong old new =
    (front : List ℕ) × IsUnbroken front × (length front ≡ max_line + 1) × Consumes old new front

-- bytes of a line that isn't read to its end are taken off the front
abbrev pub TakesFront : Option (List ℕ) → Option (List ℕ) → Type 0
TakesFront old new =
    (front : List ℕ) × IsUnbroken front × (length front ≤ max_line + 1) × Consumes old new front

-- a line, or bytes of one
abbrev pub TakesSome : Option (List ℕ) → Option (List ℕ) → Type 0
TakesSome old new = TakesFront old new ⊎ ((line : List ℕ) × TakesLine old new line)

-- nothing is left
abbrev pub TakesNothing : Option (List ℕ) → Option (List ℕ) → Type 0
TakesNothing old new = Consumes old new [] × IsAtEnd new

-- ---- the payload

-- the input ends before that many bytes
abbrev pub TakesTooFew : Option (List ℕ) → Option (List ℕ) → ℕ → Type 0
TakesTooFew old new length_asked =
    (front : List ℕ) × (length front < length_asked) × Consumes old new front × IsAtEnd new

-- at most that many bytes are taken off the front
abbrev pub TakesUpTo : Option (List ℕ) → Option (List ℕ) → ℕ → Type 0
TakesUpTo old new length_asked =
    (front : List ℕ) × (length front ≤ length_asked) × Consumes old new front

-- the length of the payload of a line that asks for this
abbrev pub following : LineAsk → Option ℕ
following (ask.Request request) = None
following (ask.Upload upload length_asked) = Some length_asked
following ask.Long = None
following ask.Form = None

-- a line that asks for this is taken off the front
pub record TakesOffer (old new : Option (List ℕ)) (line : List ℕ) (asked : LineAsk) : Type 0 where
  pub taken : TakesLine old new line
  pub asks : ask_of line ≡ asked

-- ---- requests

-- the text of a request: its line, or the line of an upload with the payload after it
pub data IsText (old new : Option (List ℕ)) (line : List ℕ) : Request → Type 0 where
  alone : {request : Request} → TakesLine old new line → ask_of line ≡ ask.Request request
      → IsText old new line request
  followed : (upload : Upload) (payload : List ℕ) (mid : Option (List ℕ))
      → TakesOffer old mid line (ask.Upload upload (length payload)) → Consumes mid new payload
      → IsText old new line (uploaded upload payload)

-- a line that is too long, or whose payload would be
abbrev pub TakesTooLong : Option (List ℕ) → Option (List ℕ) → Type 0
TakesTooLong old new =
    TakesLong old new ⊎ ((line : List ℕ) × TakesLine old new line × (ask_of line ≡ ask.Long))

-- a line with a payload, and fewer bytes of it than the line says
pub record TakesCut (old new : Option (List ℕ)) : Type 0 where
  pub line : List ℕ
  pub asked : LineAsk
  pub length_asked : ℕ
  pub mid : Option (List ℕ)
  pub offer : TakesOffer old mid line asked
  pub counted : following asked ≡ Some length_asked
  pub few : TakesTooFew mid new length_asked

-- a line with a payload, and at most as many bytes of it as the line says
pub record TakesOfferFront (old new : Option (List ℕ)) : Type 0 where
  pub line : List ℕ
  pub asked : LineAsk
  pub length_asked : ℕ
  pub mid : Option (List ℕ)
  pub offer : TakesOffer old mid line asked
  pub counted : following asked ≡ Some length_asked
  pub front : TakesUpTo mid new length_asked

abbrev pub Reads : Option (List ℕ) → Option (List ℕ) → Asked → Type 0
Reads old new (asked.Request request) = (line : List ℕ) × IsText old new line request
Reads old new asked.Form = (line : List ℕ) × TakesLine old new line × (ask_of line ≡ ask.Form)
Reads old new asked.Long = TakesTooLong old new
Reads old new asked.Cut = TakesCut old new
Reads old new asked.End = TakesNothing old new

-- a source that fails has given bytes of a request's text; if there is no memory for a request, its text may
-- be taken whole
abbrev pub BreaksRead : Option (List ℕ) → Option (List ℕ) → Type 0
BreaksRead old new = TakesFront old new ⊎ TakesOfferFront old new

abbrev pub BreaksMemory : Option (List ℕ) → Option (List ℕ) → Type 0
BreaksMemory old new = TakesSome old new ⊎ TakesOfferFront old new

abbrev pub Breaks : Option (List ℕ) → Option (List ℕ) → WireFault → Type 0
Breaks old new Read = BreaksRead old new
Breaks old new Write = ⊥
Breaks old new Memory = BreaksMemory old new

-- how many failures the source has after a call with this fault: a fault of reading counts as one
abbrev pub read_failures : Option WireFault → ℕ → ℕ
read_failures (Some Read) failures = u64_saturate (failures + 1)
read_failures _ failures = failures
