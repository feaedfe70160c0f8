-- The invariants of the loops of `Layout::put_children` in `src/opening.rt`.
use Rattle.std.proofs.Common.{take}
use Rattle.std.specs.Prelude.{slice_get}
use Rattle.mpw_columns_contents.specs.Internal.Making.{Adds}
use Rattle.mpw_columns_contents.specs.Internal.Opening.{name_shown, structure_children}
use Rattle.mpw_columns_contents.proofs.layout.Layout.put_children.Given as goal

abbrev pub invariant-loop-child : goal.invariant-loop-child
invariant-loop-child l =
    Adds l.self (structure_children l.placing (name_shown l.self.shelf.now)
    (slice_get l.self.structures.now l.node.structure) (take l.child-index l.node.children.items))
    l.fn.things.items l.things.items
