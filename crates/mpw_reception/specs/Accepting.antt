-- Which errors of the system pass by themselves.
use Rattle.std.specs.Prelude.{ℕ, Bool, ◌||◌, ◌==◌}

-- ENOMEM, ENFILE, EMFILE and ENOBUFS, by their numbers
abbrev pub is_momentary : ℕ → Bool
is_momentary code = code == 12 || code == 23 || code == 24 || code == 105
