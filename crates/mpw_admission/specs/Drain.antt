-- Whether a client reads what is written to it: 16384 bytes in each ten seconds of waiting.
use Rattle.std.specs.Prelude.{ℕ, Bool, ◌+◌, ◌||◌, nat_le, nat_lt, if◌then◌else◌}
use Rattle.std.specs.Io.Iter.{u64_saturate}
use Rattle.mpw_admission.specs.declared.drain.Drain.{Drain}

-- it took enough since it last did, or writes haven't waited for long
abbrev pub is_fast_enough : Drain → ℕ → ℕ → Bool
is_fast_enough drain bytes waited =
    nat_le 16384 (u64_saturate (drain.bytes + bytes)) || nat_lt (u64_saturate (drain.waited + waited)) 10000

-- after a write both are counted on, or begin anew if it took enough
abbrev pub after_write : Drain → ℕ → ℕ → Drain
after_write drain bytes waited =
    if nat_le 16384 (u64_saturate (drain.bytes + bytes))
    then record { bytes = 0; waited = 0 }
    else record { bytes = u64_saturate (drain.bytes + bytes); waited = u64_saturate (drain.waited + waited) }
