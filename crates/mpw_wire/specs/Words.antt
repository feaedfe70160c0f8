-- The words of a line.
use Rattle.std.specs.Prelude.{ℕ, List}
use Rattle.mpw_text.specs.Text.{words_of}

-- the words of a line, which its spaces separate: two adjacent spaces have an empty word
-- between them
unfoldable pub words : List ℕ → List (List ℕ)
words line = words_of line
