-- For private functions and proofs: the boxes of one structure.
use Rattle.std.specs.Prelude.{◌≡◌, ℕ, slice_get, Option, Some}
use Rattle.std.specs.Global.{Vec}
use Rattle.mpw_geom.specs.declared.plane.Box2.{Box2}
use Rattle.mpw_structures.specs.declared.structures.Structure.{Structure}
use Rattle.mpw_columns_contents.specs.Boxes.{box_of}

-- Each box in the list is that of the element at that index.
abbrev pub HoldsBoxes : Structure → Vec (Option Box2) → Type 0
HoldsBoxes s boxes =
    (place : ℕ) (b : Option Box2) → slice_get boxes.items place ≡ Some b
    → box_of (slice_get s.elements place) ≡ b
