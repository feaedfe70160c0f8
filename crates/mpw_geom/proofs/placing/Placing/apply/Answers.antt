-- Answers to the goals of `Placing::apply` in `src/placing.rt`.
use Rattle.std.proofs.Common.{arith}
use Rattle.std.proofs.lemmas.Int.{ints}
use Rattle.mpw_geom.specs.Placing.{placed_point}
use Rattle.mpw_geom.proofs.Chains.{same_point}
use Rattle.mpw_geom.proofs.placing.Placing.apply.Goals as goal

pub returns : goal.returns
unfolding placed_point
returns c =
    rw (← c.apply-x.ensures.point) (same_point _ _ (omega (arith, ints)) (omega (arith, ints)))
