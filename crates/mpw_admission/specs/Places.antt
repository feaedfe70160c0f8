-- Which places of a service are for connections with a session.
use Rattle.std.specs.Prelude.{ℕ, Option, None, ◌-◌, ◌/◌, min, max, nat_le, if◌then◌else◌}

-- a quarter of the places, two at least, but never all
abbrev pub kept_of : ℕ → ℕ
kept_of places = min (max (places / 4) 2) (places - 1)

-- who leaves for a newcomer: the oldest stranger, if no more places are free than are reserved
abbrev pub leaving : ℕ → ℕ → Option ℕ → Option ℕ
leaving places free oldest = if nat_le free (kept_of places) then oldest else None
