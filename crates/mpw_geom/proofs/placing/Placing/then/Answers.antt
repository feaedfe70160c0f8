-- Answers to the goals of `Placing::then` in `src/placing.rt`.
use Rattle.mpw_geom.proofs.Chains.{placed-placed_point, placed-placed_square}
use Rattle.mpw_geom.proofs.placing.Placing.then.Goals as goal

pub returns-clause-points : goal.returns-clause-points
returns-clause-points c =
    λ p. placed-placed_point c.args.self c.args.next _ p (c.then.ensures.points p) c.apply.ensures

pub returns-clause-squares : goal.returns-clause-squares
returns-clause-squares c =
    λ s. placed-placed_square c.args.self c.args.next _ s (c.then.ensures.squares s) c.apply.ensures
