-- The stored boxes of the elements of a shelf's first submission.
use Rattle.std.specs.Prelude.{◌≡◌, ℕ, List, [], slice_get, Option, Some, None, unwrap_or}
use Rattle.mpw_geom.specs.declared.plane.Box2.{Box2}
use Rattle.mpw_structures.specs.declared.element.Element.{Element}
use Rattle.mpw_hier.specs.Boxes.{element_box}
use Rattle.mpw_hier.specs.declared.submission.Submission.{Submission}
use Rattle.mpw_columns_contents.specs.Things.{element_in}

-- The box of an element, if there is one.
abbrev pub box_of : Option Element → Option Box2
box_of None = None
box_of (Some e) = element_box e

-- The list of a structure, which is empty if there is none.
abbrev pub boxes_at : List (List (Option Box2)) → ℕ → List (Option Box2)
boxes_at boxes structure = unwrap_or (slice_get boxes structure) []

-- Each box in a structure's list is that of the element at that index.
abbrev pub AreBoxesOf : List Submission → List (List (Option Box2)) → Type 0
AreBoxesOf ss boxes =
    (structure place : ℕ) (b : Option Box2) → slice_get (boxes_at boxes structure) place ≡ Some b
    → box_of (element_in ss structure place) ≡ b
