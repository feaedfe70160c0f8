-- The invariants of the loops of `list_shapes` in `src/list.rt`.
use Rattle.std.proofs.Common.{◌≡◌, ◌++◌, List, length}
use Rattle.mpw_hier.specs.Items.{Item}
use Rattle.mpw_walk.specs.Turns.{given}
use Rattle.mpw_columns.specs.Internal.Listed.{ShowSeen}
use Rattle.mpw_columns.proofs.list.list_shapes.Given as goal

abbrev pub invariant-loop-placed : goal.invariant-loop-placed
invariant-loop-placed l =
    (done : List Item) × (done ++ given l.walk.left ≡ given l.fn.walk.left)
    × (ShowSeen l.layers l.axis done l.listed.items)

abbrev pub decreases-loop-placed : goal.decreases-loop-placed
decreases-loop-placed l = length (given l.walk.left)
