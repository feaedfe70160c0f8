-- Answers to the goals of `Box2::join` in `src/plane.rt`.
use Rattle.std.proofs.Common.{rules}
use Rattle.mpw_geom.proofs.Boxes.{same_box}
use Rattle.mpw_geom.proofs.plane.Box2.join.Goals as goal

pub returns : goal.returns
returns c = same_box _ _ (search rules) (search rules) (search rules) (search rules)
