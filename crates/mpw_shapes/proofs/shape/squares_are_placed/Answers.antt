-- Answers to the goals of `squares_are_placed` in `src/shape.rt`.
use Rattle.mpw_shapes.proofs.PlacedBoundary.{placed_boundary}
use Rattle.mpw_shapes.proofs.PlacedPath.{placed_path}
use Rattle.mpw_shapes.proofs.shape.squares_are_placed.Goals as goal

pub returns : goal.returns
returns c = record { boundaries = placed_boundary; paths = placed_path }
