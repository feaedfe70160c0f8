-- Lines of `shapes` have boundaries and paths.
use Rattle.std.proofs.Common.{◌≡◌, ℕ, Bool, true, false, cond, List, [], ◌∷◌, Option, Some, None, arith}
use Rattle.std.specs.Prelude.{All, slice_get}
use Rattle.std.specs.List.{flat_map}
use Rattle.std.proofs.lemmas.List.Elements.{All-head, All-tail, All-cons, All-append}
use Rattle.mpw_rbac.specs.Policy.{Policy}
use Rattle.mpw_hier.specs.declared.submission.Submission.{Submission}
use Rattle.mpw_hier.specs.Items.{Item}
use Rattle.mpw_hier.specs.Shelf.{present}
use Rattle.mpw_hier.specs.Structures.{is_shape}
use Rattle.mpw_hier.specs.Values.{flat}
use Rattle.mpw_laws.proofs.RowParts.{if_behind, if_listed}
use Rattle.mpw_replies.specs.Listing.{line_if, shape_line}
use Rattle.mpw_replies.specs.Rows.{needed}
use Rattle.mpw_trail.specs.declared.verdict.Code.TheVariants as code
use Rattle.mpw_access.specs.Seen.{may_read}
use Rattle.mpw_laws.specs.LayoutLaws.{IsShapeLine, ShapesAreNoReferences}
use Rattle.mpw_layouts.specs.declared.ending.LayoutEnding.TheVariants.{Refused}
use Rattle.mpw_layouts.specs.Layouts.{readable_shape, shapes}

abbrev IsOfShape : Item → Type 0
IsOfShape item = is_shape item.element ≡ true

no_lines : All IsShapeLine []
no_lines = λ k d lt. absurd (omega (arith, lt))

module _ (policy : Policy) (connection : ℕ) where
  line_alone : (o : Option Submission) (item : Item) → IsOfShape item
      → All IsShapeLine (line_if (may_read policy connection) o item)
  line_alone None item h = no_lines
  line_alone (Some s) item h = go (may_read policy connection s)
    where
      go : (b : Bool) → All IsShapeLine (cond b (shape_line s item ∷ []) [])
      go true = All-cons IsShapeLine (shape_line s item) [] h no_lines
      go false = no_lines

  lines_alone : (shelf : List Submission) (items : List Item) → All IsOfShape items
      → All IsShapeLine (flat_map (readable_shape policy shelf connection) items)
  lines_alone shelf [] h = no_lines
  lines_alone shelf (item ∷ items) h =
      All-append IsShapeLine (readable_shape policy shelf connection item) _
      (line_alone (slice_get shelf item.origin) item (All-head IsOfShape item items h))
      (lines_alone shelf items (All-tail IsOfShape item items h))

pub shapes_alone : ((ss : List Submission) (number : ℕ) → All IsOfShape (flat ss number))
    → ShapesAreNoReferences
unfolding shapes
shapes_alone law policy shelf connection cell =
    if_listed _ _ (shapes policy shelf connection cell)
    (if_behind (All IsShapeLine) (needed (Refused code.NoCell) (present shelf cell)) _
    (λ number is. lines_alone policy connection shelf (flat shelf number) (law shelf number)))
