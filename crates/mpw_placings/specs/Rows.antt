-- How placing and removing change a table of placements, with the tests of each in order.
use Rattle.std.specs.Prelude.{◌≡◌, ℕ, ◌+◌, ◌^◌, not, nat_lt, nat_le, List, [], ◌∷◌, ◌++◌, length, filter, Option, Some, None, Result, Ok, Err, if◌then◌else◌}
use Rattle.mpw_geom.specs.declared.placing.Placing.{Placing}
use Rattle.mpw_hier.specs.declared.submission.Submission.{Submission}
use Rattle.mpw_hier.specs.Shelf.{present}
use Rattle.mpw_hier.specs.Values.{count}
use Rattle.mpw_walk.specs.declared.root.Root.{Root}
use Rattle.mpw_walk.specs.Roots.{root_extent}
use Rattle.mpw_placings.specs.declared.fault.PlacingFault.{PlacingFault}
use Rattle.mpw_placings.specs.declared.fault.PlacingFault.TheVariants.{NoCell, Known, Extent, Shapes, Full, Unknown, Memory}
use Rattle.mpw_placings.specs.declared.placement.Placement.{Placement}
use Rattle.mpw_placings.specs.Placements.{is_at, is_taken, is_far, shape_count}

-- Why a submission on the shelf can't be placed after these under that cell and label: the cell has that
-- label already, a shape of the submission would be too far away, all placements together have too many
-- shapes, or there are too many.
abbrev pub refusal : List Submission → List Placement → List ℕ → List ℕ → Root → Option PlacingFault
refusal ss ps cell label root =
    if is_taken ps cell label then Some Known
    else if is_far (root_extent ss root) then Some Extent
    else if nat_lt (2 ^ 20) (shape_count ss ps + count ss root.submission) then Some Shapes
    else if nat_le 4096 (length ps) then Some Full
    else None

abbrev pub behind : List Placement → Placement → Option PlacingFault
    → Result (List Placement) PlacingFault
behind ps p None = Ok (ps ++ p ∷ [])
behind ps p (Some fault) = Err fault

-- The submission of that number is added after the others, if no test refuses it.
abbrev pub placed_root : List Submission → List Placement → List ℕ → List ℕ → Root
    → Result (List Placement) PlacingFault
placed_root ss ps cell label root =
    behind ps (record { cell = cell; label = label; root = root }) (refusal ss ps cell label root)

abbrev pub placed_number : List Submission → List Placement → List ℕ → List ℕ → Placing → Option ℕ
    → Result (List Placement) PlacingFault
placed_number ss ps cell label placing None = Err NoCell
placed_number ss ps cell label placing (Some number) =
    placed_root ss ps cell label (record { submission = number; placing = placing })

-- The placements with the present submission of the cell placed under that label.
unfoldable pub placings_with : List Submission → List Placement → List ℕ → List ℕ → Placing
    → Result (List Placement) PlacingFault
placings_with ss ps cell label placing = placed_number ss ps cell label placing (present ss cell)

-- The placements without the one of that cell and label.
unfoldable pub placings_without : List Placement → List ℕ → List ℕ
    → Result (List Placement) PlacingFault
placings_without ps cell label =
    if is_taken ps cell label then Ok (filter (λ p. not (is_at cell label p)) ps) else Err Unknown

-- The result of a change is that of its decision table, unless memory ran out.
abbrev pub Refuses : PlacingFault → Result (List Placement) PlacingFault → Type 0
Refuses Memory told = Unit {0}
Refuses fault told = told ≡ Err fault

abbrev pub GivesPlacements : Result (List Placement) PlacingFault
    → Result (List Placement) PlacingFault → Type 0
GivesPlacements (Ok ps) told = told ≡ Ok ps
GivesPlacements (Err fault) told = Refuses fault told
