-- The contents of the submissions of a shelf: flat lists, counts, heights and extents. A submission refers only to earlier ones.
use Rattle.std.specs.Prelude.{ℕ, suc, max, List, [], ◌∷◌, ◌++◌, length, map, fold, slice_index_or, Option, Some, None, if◌then◌else◌}
use Rattle.mpw_geom.specs.declared.plane.Box2.{Box2}
use Rattle.mpw_geom.specs.Names.{name_eq}
use Rattle.mpw_structures.specs.declared.structures.Structure.{Structure}
use Rattle.mpw_hier.specs.declared.bindings.Binding.{Binding}
use Rattle.mpw_hier.specs.declared.submission.Submission.{Submission}
use Rattle.mpw_hier.specs.Structures.{referenced_names}
use Rattle.mpw_hier.specs.Levels.{by_levels, levels_of}
use Rattle.mpw_hier.specs.Items.{Item, items_of}
use Rattle.mpw_hier.specs.Boxes.{extent_of}

-- The value of each submission, computed from those before it.
unfoldable pub from_first : {V : Type 0} → (List V → Submission → V) → List V → List Submission
    → List V
from_first shown before [] = before
from_first shown before (s ∷ ss) = from_first shown (before ++ shown before s ∷ []) ss

-- The submission to which a name is bound.
abbrev pub bound_number : List Binding → List ℕ → Option ℕ
bound_number [] name = None
bound_number (b ∷ bs) name = if name_eq b.name name then Some b.submission else bound_number bs name

-- The value of that submission; for a name that isn't bound, the given one.
abbrev pub at_number : {V : Type 0} → V → List V → Option ℕ → V
at_number nothing before None = nothing
at_number nothing before (Some n) = slice_index_or before n nothing

-- ---- flat lists

-- The flat list of a structure of a submission after others with these flat lists.
abbrev pub structure_items : List (List Item) → Submission → List ℕ → List Item
structure_items before s name =
    items_of (λ outside. at_number [] before (bound_number s.bound outside)) (length before)
    s.library name

abbrev pub flat_of : List (List Item) → Submission → List Item
flat_of before s = structure_items before s s.top

unfoldable pub flats : List Submission → List (List Item)
flats ss = from_first flat_of [] ss

-- The flat list of the submission with a number.
abbrev pub flat : List Submission → ℕ → List Item
flat ss number = slice_index_or (flats ss) number []

-- How many flat shapes it has, and the least box that contains them.
abbrev pub count : List Submission → ℕ → ℕ
count ss number = length (flat ss number)

abbrev pub extent : List Submission → ℕ → Option Box2
extent ss number = extent_of (flat ss number)

-- ---- heights

abbrev pub greatest : List ℕ → ℕ
greatest ns = fold max 0 ns

-- A structure without references has height 1, another one has one more than the greatest of its targets.
abbrev pub shown_height : Structure → (List ℕ → ℕ) → ℕ
shown_height s below = suc (greatest (map below (referenced_names s.elements)))

-- The height of the structure with a name. A name outside the library has the height that `outside` gives.
abbrev pub structure_height : (List ℕ → ℕ) → List Structure → List ℕ → ℕ
structure_height outside library name =
    by_levels shown_height 0 outside (levels_of library) library name

abbrev pub height_of : List ℕ → Submission → ℕ
height_of before s =
    structure_height (λ outside. at_number 0 before (bound_number s.bound outside)) s.library s.top

unfoldable pub heights : List Submission → List ℕ
heights ss = from_first height_of [] ss

-- The height of the submission with a number.
abbrev pub height : List Submission → ℕ → ℕ
height ss number = slice_index_or (heights ss) number 0
