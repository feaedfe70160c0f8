-- Answers to the goals of `squares_go_with_points` in `src/placing.rt`.
use Rattle.mpw_geom.proofs.Turns.{placed_closed}
use Rattle.mpw_geom.proofs.placing.squares_go_with_points.Goals as goal

pub returns : goal.returns
returns c = placed_closed
