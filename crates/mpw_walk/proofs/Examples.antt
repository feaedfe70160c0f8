-- Worked examples of the definitions.
use Rattle.std.proofs.Common.{◌≡◌, ℕ, pos, List, [], ◌∷◌, map, refl}
use Rattle.mpw_geom.specs.declared.plane.Orient.TheVariants.{R0, R90}
use Rattle.mpw_geom.specs.declared.plane.Point.{Point}
use Rattle.mpw_geom.specs.Placing.{oriented_point, placed_point}
use Rattle.mpw_structures.specs.declared.element.Element.{Element}
use Rattle.mpw_structures.specs.declared.element.Element.TheVariants as elements
use Rattle.mpw_structures.specs.declared.structures.Structure.{Structure}
use Rattle.mpw_hier.specs.declared.submission.Submission.{Submission}
use Rattle.mpw_hier.specs.Levels.{by_levels}
use Rattle.mpw_hier.specs.Values.{from_first, flats}
use Rattle.mpw_hier.specs.Items.{Item, instances, placed_again}
use Rattle.mpw_walk.specs.Turns.{flat_roots}
use Rattle.mpw_walk.specs.declared.root.Root.{Root}

abbrev at : ℕ → ℕ → Point
at x y = record { x = pos x; y = pos y }

abbrev dot : Element
dot =
    elements.Boundary (record { layer = record { layer = 1; datatype = 0 }; points = at 0 0 ∷ [] })

-- an array of a name, with its columns and rows
abbrev array : ℕ → ℕ → List ℕ → Element
array columns rows name = elements.Reference (record {
  name = name;
  orient = R0;
  origin = at 0 0;
  columns = columns;
  rows = rows;
  column_step = at 10 0;
  row_step = at 0 100;
})

abbrev one : ℕ → List Element → Structure
one name elements = record { name = name ∷ []; elements = elements }

-- submission 0 has a dot; submission 1 an empty cell, an array of submission 0 in two columns and three rows, and a dot
abbrev shelf : List Submission
shelf =
    record {
      cell = 65 ∷ [];
      version = 1;
      submitter = [];
      library = one 84 (dot ∷ []) ∷ [];
      top = 84
          ∷ [];
      bound = [];
    }
    ∷ record {
      cell = 66 ∷ [];
      version = 1;
      submitter = [];
      library = one 84 (array 1 1 (69 ∷ []) ∷ array 2 3 (65 ∷ []) ∷ dot ∷ []) ∷ one 69 [] ∷ [];
      top = 84 ∷ [];
      bound = record { name = 65 ∷ []; submission = 0 } ∷ [];
    }
    ∷ []

abbrev roots : List Root
roots = record { submission = 1; placing = record { orient = R90; by = at 1000 0 } } ∷ []

abbrev shown_at : Item → ℕ × Point
shown_at i = (i.origin, i.placing.by)

-- its own dot comes first, and then the array row by row, with the column running fastest, each turned and displaced
pub seven_items : map shown_at (flat_roots shelf roots) ≡ (1, at 1000 0) ∷ (0, at 1000 0)
    ∷ (0, at 1000 10) ∷ (0, at 900 0) ∷ (0, at 900 10) ∷ (0, at 800 0) ∷ (0, at 800 10) ∷ []
unfolding flat_roots flats from_first by_levels instances placed_again placed_point oriented_point
seven_items = refl
