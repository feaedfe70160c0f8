-- What the help says about a word: the entries that have it, in order.
use Rattle.std.specs.Prelude.{ℕ, Bool, false, ◌||◌, nat_eq, List, [], ◌++◌, codes, if◌then◌else◌}
use Rattle.std.specs.Cmp.Lexicographic.{pointwise}
use Rattle.mpw_help.specs.declared.entry.Entry.{Entry}
use Rattle.mpw_help.specs.declared.entry.Detail.{Detail}
use Rattle.mpw_help.specs.declared.entry.Detail.TheVariants.{Request, Command, Denial, Refusal}
use Rattle.mpw_help.specs.declared.told.Label.{Label}
use Rattle.mpw_help.specs.declared.told.Label.TheVariants.{Tests, Reply, Statuses, Remedy}

-- whether two words have the same bytes
abbrev pub is_same : List ℕ → List ℕ → Bool
is_same = pointwise nat_eq

-- the number of a code is asked for
unfoldable pub has_number : List ℕ → Detail → Bool
has_number word (Refusal number remedy) = is_same number.now word
has_number word _ = false

-- the entry is asked for: by its word, or by the number of its code
unfoldable pub is_asked : List ℕ → Entry → Bool
is_asked word entry = is_same entry.word.now word || has_number word entry.detail

-- an entry, on lines of its own
unfoldable pub label_text : Label → List ℕ
label_text Tests = codes "    Tests in order: "
label_text Reply = codes "    Reply: "
label_text Statuses = codes "    Exit status: "
label_text Remedy = codes "    What to do: "

unfoldable pub line_text : Label → List ℕ → List ℕ
line_text label line = label_text label ++ line ++ codes "\n"

unfoldable pub detail_text : Detail → List ℕ
detail_text (Request tests reply) = line_text Tests tests.now ++ line_text Reply reply.now
detail_text (Command statuses) = line_text Statuses statuses.now
detail_text (Denial remedy) = line_text Remedy remedy.now
detail_text (Refusal number remedy) = line_text Remedy remedy.now

unfoldable pub entry_text : Entry → List ℕ
entry_text entry =
    (entry.form.now ++ codes "\n    " ++ entry.meaning.now ++ codes "\n")
    ++ detail_text entry.detail

-- what the help prints if it is asked for that word
unfoldable pub help_text : List ℕ → Entry → List ℕ
help_text word entry = if is_asked word entry then entry_text entry else []

-- its word in a list of words
unfoldable pub word_text : Entry → List ℕ
word_text entry = codes " " ++ entry.word.now
