-- Worked examples of the definitions.
use Rattle.std.proofs.Common.{◌≡◌, pos, negsuc, List, [], ◌∷◌, map, refl}
use Rattle.mpw_geom.specs.declared.plane.Orient.TheVariants.{R0}
use Rattle.mpw_geom.specs.declared.plane.Point.{Point}
use Rattle.mpw_structures.specs.declared.element.Element.{Element}
use Rattle.mpw_structures.specs.declared.element.Element.TheVariants as elements
use Rattle.mpw_structures.specs.declared.element.Reference.{Reference}
use Rattle.mpw_structures.specs.declared.structures.Structure.{Structure}
use Rattle.mpw_hier.specs.Levels.{by_levels}
use Rattle.mpw_hier.specs.Items.{Item, instances, items_of}

abbrev origin : Point
origin = record { x = pos 0; y = pos 0 }

-- an array of two columns and three rows, row by row
abbrev array : Reference
array = record {
  name = 69 ∷ [];
  orient = R0;
  origin = origin;
  columns = 2;
  rows = 3;
  column_step = record { x = pos 10; y = pos 2 };
  row_step = record { x = negsuc 0; y = pos 10 };
}

abbrev dot : Element
dot =
    elements.Boundary (record { layer = record { layer = 1; datatype = 0 }; points = origin ∷ [] })

abbrev place_e : Element
place_e = elements.Reference array

-- T has a dot of its own and an array of E, which has a dot and a name outside
abbrev two : List Structure
two = record { name = 84 ∷ []; elements = place_e ∷ dot ∷ [] }
    ∷ record { name = 69 ∷ []; elements = dot ∷ [] } ∷ []

pub seven_items : map (λ (i : Item). i.origin) (items_of (λ _. []) 5 two (84 ∷ [])) ≡ 5 ∷ 5 ∷ 5 ∷ 5
    ∷ 5 ∷ 5 ∷ 5 ∷ []
unfolding by_levels instances
seven_items = refl
