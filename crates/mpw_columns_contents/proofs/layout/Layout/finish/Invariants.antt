-- The invariants of the loops of `Layout::finish` in `src/making.rt`.
use Rattle.std.proofs.Common.{[]}
use Rattle.mpw_columns_contents.specs.Things.{things_items}
use Rattle.mpw_columns_contents.specs.Internal.Making.{Adds}
use Rattle.mpw_columns_contents.proofs.layout.Layout.finish.Given as goal

abbrev pub invariant-loop : goal.invariant-loop
invariant-loop l =
    Adds l.self (things_items l.self.shelf.now l.fn.from.items) [] l.things.items
