-- The text of the report of a store.
use Rattle.std.specs.Prelude.{ℕ, List, [], ◌++◌, codes, Option, None, Some}
use Rattle.std.specs.Fmt.{decimal}
use Rattle.mpw_roles.specs.Hierarchy.{Name}
use Rattle.mpw_store_replay.specs.declared.replayed.Replayed.{Replayed}
use Rattle.mpw_store_log.specs.declared.ending.LogEnd.{LogEnd}

-- words and a value
abbrev pub line_text : List ℕ → List ℕ → List ℕ
line_text words value = words ++ value ++ codes "\n"

unfoldable pub rows_text : ℕ → List ℕ
rows_text rows = line_text (codes "rows ") (decimal rows)

abbrev pub officer_text : Option Name → List ℕ
officer_text None = []
officer_text (Some name) = line_text (codes "officer ") name

-- the frames that the next start takes, and those that it drops
unfoldable pub log_text : LogEnd → List ℕ
log_text end = line_text (codes "log frames ") (decimal end.frames)
    ++ line_text (codes "frames after the last commit ") (decimal end.more)

-- what no test of a store notices
unfoldable pub unseen_text : List ℕ
unseen_text = line_text (codes "not noticed: ")
    (codes "a change that became another valid one, the officer's token, and the loss of a whole log")

-- the rows, the officer if there is one, the log, and what isn't noticed
abbrev pub report_text : Replayed → LogEnd → List ℕ
report_text replayed end =
    rows_text replayed.rows ++ officer_text replayed.officer ++ log_text end ++ unseen_text
