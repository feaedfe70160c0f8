-- The invariants of the loops of `add_shapes` in `src/shapes.rt`.
use Rattle.std.proofs.Common.{◌≡◌, ◌++◌, List, length}
use Rattle.mpw_hier.specs.Items.{Item}
use Rattle.mpw_tiles.specs.Shown.{IsShown}
use Rattle.mpw_walk.specs.Turns.{given}
use Rattle.mpw_firm_picture.specs.Internal.Adding.{AddsIn}
use Rattle.mpw_firm_picture.proofs.shapes.add_shapes.Given as goal

abbrev pub invariant-loop-placed : goal.invariant-loop-placed
invariant-loop-placed l =
    (done : List Item) × (done ++ given l.walk.left ≡ given l.fn.walk.left)
    × (AddsIn l.window l.initial.rectangles.items l.rectangles.items (IsShown done))

abbrev pub decreases-loop-placed : goal.decreases-loop-placed
decreases-loop-placed l = length (given l.walk.left)
