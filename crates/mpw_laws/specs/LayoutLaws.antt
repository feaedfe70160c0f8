-- Laws of the requests of the layouts.
use Rattle.std.specs.Prelude.{◌≡◌, ℕ, true, false, List, All, Err, IfOk}
use Rattle.mpw_permissions.specs.declared.permission.Operation.TheVariants.{Use}
use Rattle.mpw_permissions.specs.declared.permission.Object.TheVariants as object
use Rattle.mpw_rbac.specs.Policy.{Policy, permits}
use Rattle.mpw_hier.specs.declared.submission.Submission.{Submission}
use Rattle.mpw_hier.specs.Structures.{is_shape}
use Rattle.mpw_requests.specs.declared.layouts.LayoutRequest.{LayoutRequest}
use Rattle.mpw_requests.specs.declared.layouts.LayoutRequest.TheVariants as ask
use Rattle.mpw_replies.specs.Listing.{Listed, stored, shape, marker, masked, entry}
use Rattle.mpw_laws.specs.Readable.{IsOfReadable, lines_of}
use Rattle.mpw_layouts.specs.declared.ending.LayoutEnding.TheVariants.{Unusable}
use Rattle.mpw_layouts.specs.Layouts.{row_of}

-- If a decision table denies the use of a cell, the session may not use it.
abbrev pub LayoutsDenyWhatIsLacked : Type 0
LayoutsDenyWhatIsLacked = (policy : Policy) (shelf : List Submission) (connection : ℕ)
    (request : LayoutRequest) (cell : List ℕ)
    → row_of policy shelf connection request ≡ Err (Unusable cell)
    → permits policy connection Use (object.Cell cell) ≡ false

-- Each line that names a cell, or shows a shape of one, is of a cell that the session may read.
abbrev pub LayoutsAreOfReadable : Type 0
LayoutsAreOfReadable = (policy : Policy) (shelf : List Submission) (connection : ℕ)
    (request : LayoutRequest)
    → IfOk (row_of policy shelf connection request)
    (λ done. All (IsOfReadable policy connection) (lines_of done))

-- A line with a shape, which is a boundary or a path.
abbrev pub IsShapeLine : Listed → Type 0
IsShapeLine (stored line) = ⊥
IsShapeLine (shape cell version placing element) = is_shape element ≡ true
IsShapeLine (marker rule key cells) = ⊥
IsShapeLine (masked rule number) = ⊥
IsShapeLine (entry number e) = ⊥

-- Each line of a reply to `shapes` has a boundary or a path.
abbrev pub ShapesAreNoReferences : Type 0
ShapesAreNoReferences =
    (policy : Policy) (shelf : List Submission) (connection : ℕ) (cell : List ℕ)
    → IfOk (row_of policy shelf connection (ask.Shapes cell))
    (λ done. All IsShapeLine (lines_of done))
