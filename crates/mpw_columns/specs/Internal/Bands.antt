-- The bands of layers.
use Rattle.std.specs.Prelude.{◌≡◌, ℤ, List, [], ◌∷◌, All, map, if◌then◌else◌}
use Rattle.mpw_geom.specs.declared.plane.Layer.{Layer}
use Rattle.mpw_region.specs.Banded.{AreBands}
use Rattle.mpw_region.specs.Squares.{covers}
use Rattle.mpw_geom.specs.Layers.{same_layer}
use Rattle.mpw_job.specs.Layers.{Coverage, no_squares}
use Rattle.mpw_columns.specs.declared.leaf.Banded.{Banded}

-- The squares of each layer: those of the first bands of it.
abbrev pub banded_on : List Banded → Coverage
banded_on [] layer = no_squares
banded_on (b ∷ bs) layer =
    if same_layer b.layer layer then covers b.boxes.items else banded_on bs layer

abbrev pub IsBanded : Banded → Type 0
IsBanded b = AreBands b.boxes.items

abbrev pub layer_of : Banded → Layer
layer_of b = b.layer

-- The bands have exactly the squares of their layer.
abbrev pub HasSquaresOf : Coverage → Banded → Type 0
HasSquaresOf on b = (i j : ℤ) → covers b.boxes.items i j ≡ on b.layer i j

-- Bands of each of the layers, with exactly its squares.
pub record AreBandsOf (layers : List Layer) (on : Coverage) (banded : List Banded) : Type 0 where
  pub layers_are : map layer_of banded ≡ layers
  pub each : All IsBanded banded
  pub squares : All (HasSquaresOf on) banded
