-- The lines of an accepted request's reply. A listing of shapes is stored as what it lists: the shelf, and
-- which submissions may be seen.
use Rattle.std.specs.Prelude.{◌≡◌, ℕ, Bool, List, [], ◌∷◌, length, slice_get, Option, None, Some, if◌then◌else◌}
use Rattle.std.specs.List.{flat_map}
use Rattle.mpw_geom.specs.declared.placing.Placing.{Placing}
use Rattle.mpw_structures.specs.declared.element.Element.{Element}
use Rattle.mpw_hier.specs.declared.submission.Submission.{Submission}
use Rattle.mpw_hier.specs.Items.{Item}
use Rattle.mpw_walk.specs.declared.root.Root.{Root}
use Rattle.mpw_walk.specs.Turns.{flat_roots}
use Rattle.mpw_walk.specs.Walk.{IsRoot}
use Rattle.mpw_markers.specs.declared.marker.Key.{Key}
use Rattle.mpw_roles.specs.Hierarchy.{Name}
pub use Rattle.mpw_seen.specs.Seen.{is_seen}
use Rattle.mpw_replies.specs.declared.reply.Line.{Line}
use Rattle.mpw_trail.specs.declared.entry.Entry.{Entry}

-- a line: a stored line, as it is written; a shape with the cell and the version of the submission that it
-- comes from, and its placing; a marker by the name of its rule, with its key and the cells that it touches;
-- the count of a rule's masked markers; or a request of the trail with its number
pub data Listed : Type 0 where
  stored : Line → Listed
  shape : Name → ℕ → Placing → Element → Listed
  marker : Name → Key → List Name → Listed
  masked : Name → ℕ → Listed
  entry : ℕ → Entry → Listed

-- the line of a shape that comes from a submission
abbrev pub shape_line : Submission → Item → Listed
shape_line s item = shape s.cell s.version item.placing item.element

-- the line of a shape, if the submission that it comes from exists and passes the test
abbrev pub line_if : (Submission → Bool) → Option Submission → Item → List Listed
line_if test None item = []
line_if test (Some s) item = if test s then shape_line s item ∷ [] else []

-- ---- what a listing stores

-- the line of a shape, if the submission that it comes from may be seen
abbrev pub seen_line : List Submission → List Bool → Item → List Listed
seen_line shelf seen item =
    line_if (λ s. is_seen (slice_get seen item.origin)) (slice_get shelf item.origin) item

-- the lines of those shapes of a flat list that may be seen
unfoldable pub seen_lines : List Submission → List Bool → List Item → List Listed
seen_lines shelf seen items = flat_map (seen_line shelf seen) items

-- a listing of a root's shapes, and how many lines it has
pub record IsListing (shelf : List Submission) (root : Root) (seen : List Bool) (count : ℕ) :
    Type 0 where
  pub root_is : IsRoot shelf root
  pub count_is : count ≡ length (seen_lines shelf seen (flat_roots shelf (root ∷ [])))
