-- The invariants of the loops of `list_shapes` in `src/shapes.rt`.
use Rattle.std.proofs.Common.{◌≡◌, ◌++◌, List, length}
use Rattle.mpw_hier.specs.Items.{Item}
use Rattle.mpw_walk.specs.Turns.{given}
use Rattle.mpw_tiles.specs.Internal.Listing.{AddsSquares}
use Rattle.mpw_tiles.specs.Shown.{IsShown}
use Rattle.mpw_tiles.proofs.shapes.list_shapes.Given as goal

abbrev pub invariant-loop-placed : goal.invariant-loop-placed
invariant-loop-placed l =
    (done : List Item) × (done ++ given l.walk.left ≡ given l.fn.walk.left)
    × (AddsSquares l.plan l.initial.lists.items l.lists.items (IsShown done))

abbrev pub decreases-loop-placed : goal.decreases-loop-placed
decreases-loop-placed l = length (given l.walk.left)
