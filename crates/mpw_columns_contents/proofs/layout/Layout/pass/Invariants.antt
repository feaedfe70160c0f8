-- The invariants of the loops of `Layout::pass` in `src/making.rt`.
use Rattle.std.proofs.Common.{[], take}
use Rattle.mpw_columns_contents.specs.Things.{things_items}
use Rattle.mpw_columns_contents.specs.Internal.Making.{Adds}
use Rattle.mpw_columns_contents.proofs.layout.Layout.pass.Given as goal

abbrev pub invariant-loop-thing : goal.invariant-loop-thing
invariant-loop-thing l =
    Adds l.self (things_items l.self.shelf.now (take l.thing-index l.old)) [] l.things.items
