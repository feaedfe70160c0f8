-- The invariants of the loops of `Layout::put_shapes` in `src/opening.rt`.
use Rattle.std.proofs.Common.{take}
use Rattle.std.specs.Prelude.{slice_get}
use Rattle.mpw_columns_contents.specs.Internal.Making.{Adds}
use Rattle.mpw_columns_contents.specs.Internal.Opening.{structure_shapes}
use Rattle.mpw_columns_contents.proofs.layout.Layout.put_shapes.Given as goal

abbrev pub invariant-loop-index : goal.invariant-loop-index
invariant-loop-index l =
    Adds l.self (structure_shapes l.placing (slice_get l.self.structures.now l.node.structure)
    (take l.index l.node.shapes)) l.fn.things.items l.things.items
