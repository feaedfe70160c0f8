-- What ends a line.
use Rattle.std.specs.Prelude.{ℕ, List, [], ◌∷◌}

-- a line feed
abbrev pub line_feed : List ℕ
line_feed = 0x0A ∷ []
