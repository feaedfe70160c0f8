-- The requests of the layouts: each with its tests in order, and its result if all pass. The guard was
-- passed before.
use Rattle.std.specs.Prelude.{ℕ, ◌^◌, not, List, [], ◌∷◌, ◌++◌, map, is_some, slice_get, Option, None, Some, Result, Ok, Err, if◌then◌else◌}
use Rattle.std.specs.List.{flat_map}
use Rattle.mpw_geom.specs.Names.{by_name}
use Rattle.mpw_records.specs.declared.fault.ReadFault.{ReadFault}
use Rattle.mpw_roles.specs.Decided.{decided}
use Rattle.mpw_roles.specs.Hierarchy.{Name}
use Rattle.mpw_permissions.specs.declared.permission.Operation.TheVariants.{Use, Read}
use Rattle.mpw_permissions.specs.declared.permission.Object.TheVariants as object
use Rattle.mpw_rbac.specs.Policy.{Policy, permits}
use Rattle.mpw_rbac.specs.Rows.{user_of}
use Rattle.mpw_structures.specs.declared.structures.Structure.{Structure}
use Rattle.mpw_library.specs.Grammar.{library_of}
use Rattle.mpw_structures.specs.Places.{place_of}
use Rattle.mpw_hier.specs.declared.bindings.Binding.{Binding}
use Rattle.mpw_hier.specs.declared.submission.Submission.{Submission}
use Rattle.mpw_hier.specs.Shelf.{present, bound_to}
use Rattle.mpw_hier.specs.Limits.{is_too_large, is_too_deep, has_room_for, numbered}
use Rattle.mpw_hier.specs.Reach.{is_cyclic, external_names, is_far}
use Rattle.mpw_hier.specs.Items.{Item}
use Rattle.mpw_hier.specs.Values.{flat}
use Rattle.mpw_requests.specs.declared.layouts.LayoutRequest.{LayoutRequest}
use Rattle.mpw_requests.specs.declared.layouts.LayoutRequest.TheVariants as ask
use Rattle.mpw_replies.specs.Listing.{Listed, stored, line_if}
use Rattle.mpw_access.specs.Seen.{may_read}
use Rattle.mpw_replies.specs.Rows.{◌>>=◌, changing, denied, listing, needed}
use Rattle.mpw_replies.specs.declared.reply.Line.{Line}
use Rattle.mpw_replies.specs.declared.reply.Line.TheVariants as line
use Rattle.mpw_trail.specs.declared.verdict.Code.TheVariants as code
use Rattle.mpw_replies.specs.declared.row.Done.{Done}
use Rattle.mpw_replies.specs.declared.row.Done.TheVariants.{Lists}
use Rattle.mpw_replies.specs.declared.row.Ending.{Ending}
use Rattle.mpw_replies.specs.declared.row.Ending.TheVariants as ending
use Rattle.mpw_layouts.specs.declared.ending.LayoutEnding.{LayoutEnding}
use Rattle.mpw_layouts.specs.declared.ending.LayoutEnding.TheVariants.{Refused, Unusable}

-- ---- tests

-- the denial or refusal of a test
abbrev pub ending_of : LayoutEnding → Ending
ending_of (Refused why) = ending.Refused why
ending_of (Unusable cell) = denied Use (object.Cell cell)

-- the library in a text
abbrev pub read : Result (List Structure) ReadFault → Result (List Structure) LayoutEnding
read (Ok library) = Ok library
read (Err fault) = Err (Refused (code.Read fault))

-- the names outside the library that the top refers to
abbrev pub outside : List Structure → Name → Result (List Name) LayoutEnding
outside library top =
    decided
    ((is_some (place_of library top), Refused code.NoTop)
    ∷ (not (is_cyclic library top), Refused code.Cycle) ∷ [])
    (external_names library top)

-- each cell may be used
abbrev pub usable : Policy → ℕ → List Name → Result (Unit {0}) LayoutEnding
usable policy connection [] = Ok tt
usable policy connection (cell ∷ cells) =
    if permits policy connection Use (object.Cell cell) then usable policy connection cells
    else Err (Unusable cell)

-- the limits (that of shapes is the desk's 2^20), and then the submission with its version
unfoldable pub within_limits : List Submission → Submission → Result Submission LayoutEnding
within_limits shelf s =
    decided
    ((not (is_far shelf s), Refused code.Extent)
    ∷ (not (is_too_large (2 ^ 20) shelf s), Refused code.Shapes)
    ∷ (not (is_too_deep shelf s), Refused code.Deep)
    ∷ (has_room_for shelf s.cell, Refused code.Full)
    ∷ [])
    (numbered shelf s)

-- ---- submit

-- a submission that has no version yet
abbrev pub unnumbered_submission : Name → Name → List Structure → Name → List Binding → Submission
unnumbered_submission cell submitter library top bindings =
    record {
      cell = cell;
      version = 0;
      submitter = submitter;
      library = library;
      top = top;
      bound = bindings;
    }

-- the submission of a library that was read: each name outside it has a present submission
unfoldable pub submitted_library : Policy → List Submission → ℕ → Name → Name → List Structure
    → Result Submission LayoutEnding
submitted_library policy shelf connection cell top library = do
  names ← outside library top
  used ← usable policy connection names
  bindings ← needed (Refused code.NoCell) (bound_to shelf names)
  within_limits shelf (unnumbered_submission cell (user_of policy connection) library top bindings)

-- the decision table of `submit`: the submission of a text
unfoldable pub submit_row : Policy → List Submission → ℕ → Name → Name → List ℕ
    → Result Submission LayoutEnding
submit_row policy shelf connection cell top text = do
  library ← read (library_of text)
  submitted_library policy shelf connection cell top library

-- ---- cells

-- the cells that have a submission, in alphabetical order
abbrev pub cells_of : List Submission → List Name
cells_of shelf = by_name (map (λ s. s.cell) shelf)

abbrev pub numbered_at : List Submission → Option ℕ → Option Submission
numbered_at shelf None = None
numbered_at shelf (Some number) = slice_get shelf number

abbrev pub cell_line : Option Submission → List Line
cell_line None = []
cell_line (Some s) = line.Cell s.cell s.version s.submitter ∷ []

-- the present submission of a cell
abbrev pub present_submission : List Submission → Name → Option Submission
present_submission shelf cell = numbered_at shelf (present shelf cell)

-- the line of a cell that the session may read
abbrev pub readable_line : Policy → List Submission → ℕ → Name → List Line
readable_line policy shelf connection cell =
    if permits policy connection Read (object.Cell cell)
    then cell_line (present_submission shelf cell)
    else []

-- the lines of `cells`
abbrev pub cells : Policy → List Submission → ℕ → List Listed
cells policy shelf connection =
    map stored (flat_map (readable_line policy shelf connection) (cells_of shelf))

-- ---- shapes

-- the line of a shape, if the session may read the cell that the shape comes from
abbrev pub readable_shape : Policy → List Submission → ℕ → Item → List Listed
readable_shape policy shelf connection item =
    line_if (may_read policy connection) (slice_get shelf item.origin) item

-- the decision table of `shapes`: the shapes of the cell's present submission that come from cells that the
-- session may read
unfoldable pub shapes : Policy → List Submission → ℕ → Name → Result (List Listed) LayoutEnding
shapes policy shelf connection cell = do
  number ← needed (Refused code.NoCell) (present shelf cell)
  Ok (flat_map (readable_shape policy shelf connection) (flat shelf number))

-- ---- each request

-- The decision table of each request. An accepted submission is added at the end of the shelf, and the reply
-- has its version.
abbrev pub row_of : Policy → List Submission → ℕ → LayoutRequest
    → Result (Done (List Submission)) LayoutEnding
row_of policy shelf connection (ask.Submit cell top text) =
    changing (λ s. shelf ++ s ∷ []) (λ s. line.Version s.version ∷ [])
    (submit_row policy shelf connection cell top text)
row_of policy shelf connection ask.Cells = Ok (Lists (cells policy shelf connection))
row_of policy shelf connection (ask.Shapes cell) =
    listing (λ lines. lines) (shapes policy shelf connection cell)
