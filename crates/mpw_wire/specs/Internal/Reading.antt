-- Definitions for private functions and proofs: what reading a request does to a source.
use Rattle.std.specs.Prelude.{◌≡◌, ℕ, List, length, Option, None, Some}
use Rattle.std.specs.Io.KnownBytes.{Consumes}
use Rattle.mpw_wire.specs.declared.fault.WireFault.{WireFault}
use Rattle.mpw_wire.specs.declared.fault.WireFault.TheVariants.{Read, Write, Memory}
use Rattle.mpw_wire.specs.declared.line.Taken.{Taken}
use Rattle.mpw_wire.specs.declared.line.Taken.TheVariants as taken
use Rattle.mpw_wire.specs.Reading.{TakesLine, TakesLong, TakesFront, TakesSome, TakesNothing, TakesTooFew, TakesUpTo}

abbrev pub Takes : Option (List ℕ) → Option (List ℕ) → Taken → Type 0
Takes old new (taken.Line line) = TakesLine old new line.items
Takes old new taken.Long = TakesLong old new
Takes old new taken.End = TakesNothing old new

-- that many bytes are taken off the front
abbrev pub TakesPayload : Option (List ℕ) → Option (List ℕ) → ℕ → List ℕ → Type 0
TakesPayload old new length_asked payload =
    (length payload ≡ length_asked) × Consumes old new payload

abbrev pub TakesBytes : Option (List ℕ) → Option (List ℕ) → ℕ → Option (List ℕ) → Type 0
TakesBytes old new length_asked (Some payload) = TakesPayload old new length_asked payload
TakesBytes old new length_asked None = TakesTooFew old new length_asked

abbrev pub BreaksBytes : Option (List ℕ) → Option (List ℕ) → ℕ → WireFault → Type 0
BreaksBytes old new length_asked Read = TakesUpTo old new length_asked
BreaksBytes old new length_asked Write = ⊥
BreaksBytes old new length_asked Memory = TakesUpTo old new length_asked

-- the same of a line
abbrev pub BreaksLine : Option (List ℕ) → Option (List ℕ) → WireFault → Type 0
BreaksLine old new Read = TakesFront old new
BreaksLine old new Write = ⊥
BreaksLine old new Memory = TakesSome old new
