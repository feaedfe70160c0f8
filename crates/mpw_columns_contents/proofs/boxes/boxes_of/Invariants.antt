-- The invariants of the loops of `boxes_of` in `src/boxes.rt`.
use Rattle.std.proofs.Common.{◌≡◌, map, take}
use Rattle.mpw_hier.specs.Boxes.{element_box}
use Rattle.mpw_columns_contents.proofs.boxes.boxes_of.Given as goal

abbrev pub invariant-loop-element : goal.invariant-loop-element
invariant-loop-element l = l.boxes.items ≡ map element_box (take l.element-index l.elements)
