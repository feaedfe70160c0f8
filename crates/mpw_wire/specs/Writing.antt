-- What writing a text does to a sink.
use Rattle.std.specs.Prelude.{◌≡◌, ℕ, ◌+◌, List, ◌++◌, Option, None, Some, Result, Ok, Err}
use Rattle.std.specs.Io.KnownBytes.{Appends}
use Rattle.std.specs.Io.Iter.{u64_saturate}
use Rattle.mpw_wire.specs.declared.fault.WireFault.{WireFault}
use Rattle.mpw_wire.specs.declared.fault.WireFault.TheVariants.{Read, Write, Memory}

-- the fault of a result
abbrev pub fault_of : {A : Type 0} → Result A WireFault → Option WireFault
fault_of (Ok answer) = None
fault_of (Err fault) = Some fault

-- a front of the text is added
abbrev pub AppendsFront : Option (List ℕ) → Option (List ℕ) → List ℕ → Type 0
AppendsFront old new text =
    (front : List ℕ) × (rest : List ℕ) × (front ++ rest ≡ text) × Appends old new front

-- the whole text is added; or the sink fails once, and a front of the text is added
abbrev pub WritesKnown : Option (List ℕ) → Option (List ℕ) → ℕ → ℕ → Option WireFault → List ℕ
    → Type 0
WritesKnown old new failed failed' None text = Appends old new text × (failed' ≡ failed)
WritesKnown old new failed failed' (Some Write) text =
    AppendsFront old new text × (failed' ≡ u64_saturate (failed + 1))
WritesKnown old new failed failed' (Some Read) text = ⊥
WritesKnown old new failed failed' (Some Memory) text = ⊥

-- the same for a sink, by its bytes and its failures
abbrev pub Writes : {S A : Type 0} → (S → Option (List ℕ)) → (S → ℕ) → S → S → Result A WireFault
    → List ℕ → Type 0
Writes contents failures old new result text =
    WritesKnown (contents old) (contents new) (failures old) (failures new) (fault_of result) text
