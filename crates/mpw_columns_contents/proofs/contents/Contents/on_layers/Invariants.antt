-- The invariants of the loops of `Contents::on_layers` in `src/layers.rt`.
use Rattle.std.proofs.Common.{take}
use Rattle.std.specs.Prelude.{All}
use Rattle.mpw_columns_contents.specs.Contents.{IsBoxed}
use Rattle.mpw_columns_contents.specs.Internal.Layers.{AreLayered}
use Rattle.mpw_columns_contents.proofs.contents.Contents.on_layers.Given as goal

abbrev pub invariant-loop-thing : goal.invariant-loop-thing
invariant-loop-thing l = AreLayered l.shelf l.layers (take l.thing-index l.all) l.things.items
    × (All (IsBoxed l.shelf) l.all → All (IsBoxed l.shelf) l.things.items)
