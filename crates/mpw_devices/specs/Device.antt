-- What a device's calls do to its bytes, to the number of its failures, and to whether bytes are pending.
use Rattle.std.specs.Prelude.{ℕ, ◌+◌, nat_lt, Bool, false, ◌||◌, List, [], ◌∷◌, Option, None, Some, Result, Ok, Err}
use Rattle.std.specs.Io.KnownBytes.{Keeps, Consumes, IsAtEnd}
use Rattle.std.specs.Io.Iter.{u64_saturate}

-- how many failures a device has after a call, counted up to 2^64 - 1
abbrev pub failures_after : {A E : Type 0} → Result A E → ℕ → ℕ
failures_after (Ok answer) failures = failures
failures_after (Err fault) failures = u64_saturate (failures + 1)

-- the byte is taken off the front; there is none only at the end, and a failure takes none
abbrev pub GivesByte : {E : Type 0} → Option (List ℕ) → Option (List ℕ) → Result (Option ℕ) E
    → Type 0
GivesByte old new (Ok (Some byte)) = Consumes old new (byte ∷ [])
GivesByte old new (Ok None) = Consumes old new [] × IsAtEnd new
GivesByte old new (Err fault) = Keeps old new

-- whether bytes are pending after a write: some were before, or some were taken; a failure takes none
abbrev pub pending_after_write : {E : Type 0} → Result ℕ E → Bool → Bool
pending_after_write (Ok taken) pending = pending || nat_lt 0 taken
pending_after_write (Err fault) pending = pending

-- whether bytes are pending after a flush: none are; after a failure it is as before
abbrev pub pending_after_flush : {A E : Type 0} → Result A E → Bool → Bool
pending_after_flush (Ok answer) pending = false
pending_after_flush (Err fault) pending = pending
