-- The invariants of the loops of `Layout::open` in `src/opening.rt`.
use Rattle.std.specs.List.{flat_map, range_with_len}
use Rattle.mpw_hier.specs.Items.{row_of}
use Rattle.mpw_columns_contents.specs.Things.{reference_of}
use Rattle.mpw_columns_contents.specs.Internal.Making.{Adds}
use Rattle.mpw_columns_contents.specs.Internal.Opening.{instances_shown}
use Rattle.mpw_columns_contents.proofs.layout.Layout.open.Given as goal

abbrev pub invariant-loop-row : goal.invariant-loop-row
invariant-loop-row l =
    Adds l.self (instances_shown l.self.shelf.now l.array.structure
    (flat_map (row_of (reference_of l.array)) (range_with_len 0 l.row))) l.fn.things.items
    l.things.items
