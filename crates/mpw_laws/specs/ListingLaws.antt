-- Laws of what a session sees of markers.
use Rattle.std.specs.Prelude.{[], ◌≡◌, ◌≢◌, ℕ, Bool, true, false, List, ◌∷◌, ◌++◌, All}
use Rattle.mpw_deck.specs.declared.rule.Rule.{Rule}
use Rattle.mpw_hier.specs.declared.submission.Submission.{Submission}
use Rattle.mpw_markers.specs.declared.marker.Marker.{Marker}
use Rattle.mpw_rbac.specs.Policy.{Policy}
use Rattle.mpw_laws.specs.Readable.{IsOfReadable}
use Rattle.mpw_replies.specs.Sight.{is_full, is_hidden, book_lines}
use Rattle.mpw_access.specs.Seen.{seen_by}

-- Each line of a book of markers, as a session sees it, names only cells that the session may read.
abbrev pub BooksAreOfReadable : Type 0
BooksAreOfReadable =
    (policy : Policy) (connection : ℕ) (rules : List Rule) (shelf : List Submission)
    (book : List Marker)
    → All (IsOfReadable policy connection)
    (book_lines rules shelf (seen_by policy connection shelf) book)

-- A marker that touches a submission is not both full and hidden.
abbrev pub FullAreNotHidden : Type 0
FullAreNotHidden =
    (seen : List Bool) (m : Marker) → m.met ≢ [] → is_full seen m ≡ true → is_hidden seen m ≡ false

-- The lines of a book are those of the book without a marker that is hidden.
abbrev pub HiddenLeaveNoTrace : Type 0
HiddenLeaveNoTrace =
    (rules : List Rule) (shelf : List Submission) (seen : List Bool) (before : List Marker)
    (m : Marker) (behind : List Marker)
    → is_hidden seen m ≡ true → is_full seen m ≡ false
    → book_lines rules shelf seen (before ++ m ∷ behind) ≡ book_lines rules shelf seen
    (before ++ behind)
