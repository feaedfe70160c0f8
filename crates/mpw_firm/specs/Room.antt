-- Whether markers have room in the memory that is free.
use Rattle.std.specs.Prelude.{ℕ, ◌*◌, ◌/◌, ◌-◌, ◌^◌, ◌||◌, min, nat_le, Bool, true, Option, None, Some}

-- Few always have. Else each takes 100 bytes of so many kB.
abbrev pub fits : (markers free : ℕ) → Bool
fits markers free = nat_le markers (2 ^ 20) || nat_le (min (markers * 100) (2 ^ 64 - 1) / 1024) free

-- All have if it isn't known.
abbrev pub has_room : (markers : ℕ) → (free : Option ℕ) → Bool
has_room markers None = true
has_room markers (Some free) = fits markers free
