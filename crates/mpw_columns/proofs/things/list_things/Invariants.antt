-- The invariants of the loops of `list_things` in `src/things.rt`.
use Rattle.std.proofs.Common.{take}
use Rattle.mpw_columns_contents.specs.Things.{things_items}
use Rattle.mpw_columns.specs.Internal.Listed.{ShowSeen}
use Rattle.mpw_columns.proofs.things.list_things.Given as goal

abbrev pub invariant-loop-thing : goal.invariant-loop-thing
invariant-loop-thing l = ShowSeen l.fn.task.layout.now.layers.now l.fn.task.axis
    (things_items l.fn.task.layout.now.snapshot.now.shelf (take l.thing-index l.fn.things)) l.listed.items
