-- Placed boxes: by two placings in sequence, and by none.
use Rattle.std.specs.Prelude.{◌≡◌, ℕ, pos}
use Rattle.mpw_geom.specs.declared.plane.Box2.{Box2}
use Rattle.mpw_geom.specs.declared.plane.Orient.TheVariants.{R0}
use Rattle.mpw_geom.specs.declared.placing.Placing.{Placing}
use Rattle.mpw_structures.specs.declared.element.Element.{Element}
use Rattle.mpw_hier.specs.Items.{placed_again}
use Rattle.mpw_hier.specs.Boxes.{placed_box, element_box, item_box}

-- To place a box by one placing and then by another is to place it by both composed.
abbrev pub BoxesArePlacedAgain : Type 0
BoxesArePlacedAgain =
    (t u : Placing) (b : Box2)
    → placed_box (placed_again t u) b ≡ placed_box t (placed_box u b)

-- A shape that is neither turned nor moved has the box of its element.
abbrev pub UnmovedShapesHaveTheirBoxes : Type 0
UnmovedShapesHaveTheirBoxes =
    (number : ℕ) (e : Element)
    → item_box (record {
      origin = number;
      placing = record { orient = R0; by = record { x = pos 0; y = pos 0 } };
      element = e;
    })
    ≡ element_box e
