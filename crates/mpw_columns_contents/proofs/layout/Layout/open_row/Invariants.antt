-- The invariants of the loops of `Layout::open_row` in `src/opening.rt`.
use Rattle.std.proofs.Common.{map}
use Rattle.std.specs.List.{range_with_len}
use Rattle.mpw_hier.specs.Items.{instance}
use Rattle.mpw_columns_contents.specs.Things.{reference_of}
use Rattle.mpw_columns_contents.specs.Internal.Making.{Adds}
use Rattle.mpw_columns_contents.specs.Internal.Opening.{instances_shown}
use Rattle.mpw_columns_contents.proofs.layout.Layout.open_row.Given as goal

abbrev pub invariant-loop-column : goal.invariant-loop-column
invariant-loop-column l =
    Adds l.self (instances_shown l.self.shelf.now l.node.structure
    (map (instance (reference_of l.array) l.row) (range_with_len 0 l.column))) l.fn.things.items
    l.things.items
