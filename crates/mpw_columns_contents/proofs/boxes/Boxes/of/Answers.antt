-- Answers to the goals of `Boxes::of` in `src/boxes.rt`.
use Rattle.std.proofs.Common.{subst, sym}
use Rattle.std.specs.List.{AllZip}
use Rattle.mpw_structures.specs.Library.{IsLibrary}
use Rattle.mpw_columns_contents.specs.Internal.Held.{HoldsBoxes}
use Rattle.mpw_columns_contents.proofs.Held.{held_are}
use Rattle.mpw_columns_contents.proofs.Read.{copied_some}
use Rattle.mpw_columns_contents.proofs.boxes.Boxes.of.Goals as goal

pub held_in-requires : goal.held_in-requires
held_in-requires c =
    let at = copied_some c.get.result c.unwrap.result _ c.unwrap.ensures c.get.ensures in
    subst IsLibrary (sym c.structures.ensures)
    (c.is_shelf.ensures 0 c.unwrap.result.now at).read

pub returns : goal.returns
returns c =
    let at = copied_some c.get.result c.unwrap.result _ c.unwrap.ensures c.get.ensures in
    let boxes = c.in_ok-structures.structures.items in
    held_are c.args.shelf.now c.unwrap.result.now at boxes
    (subst (λ ss. AllZip HoldsBoxes ss boxes) c.structures.ensures c.in_ok-structures.ensures)
