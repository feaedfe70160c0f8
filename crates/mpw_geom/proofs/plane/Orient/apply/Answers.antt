-- Each orientation takes a point's coordinates as they are or negated: both are correct, and stay in the plane.
use Rattle.std.proofs.Common.{refl}
use Rattle.mpw_geom.specs.Placing.{oriented_point}
use Rattle.mpw_geom.proofs.Scalars.{kept, kept_twice, negated, negated_thrice, kept_coordinate, negated_coordinate}
use Rattle.mpw_geom.proofs.plane.Orient.apply.Goals as goal

pub returns-in-R0-clause-point : goal.returns-in-R0-clause-point
unfolding oriented_point
returns-in-R0-clause-point c = rw c.in-R0.is refl

pub returns-in-R90-clause-point : goal.returns-in-R90-clause-point
unfolding oriented_point
returns-in-R90-clause-point c =
    rw c.in-R90.is (λ k. record { x = negated _ c.requires.y k; y = kept _ c.requires.x k })

pub returns-in-R90-clause-in_plane : goal.returns-in-R90-clause-in_plane
returns-in-R90-clause-in_plane c =
    record { x = negated_coordinate _ c.requires.y; y = kept_coordinate _ c.requires.x }

pub returns-in-R180-clause-point : goal.returns-in-R180-clause-point
unfolding oriented_point
returns-in-R180-clause-point c =
    rw c.in-R180.is (λ k. record { x = negated _ c.requires.x k; y = negated _ c.requires.y k })

pub returns-in-R180-clause-in_plane : goal.returns-in-R180-clause-in_plane
returns-in-R180-clause-in_plane c =
    record { x = negated_coordinate _ c.requires.x; y = negated_coordinate _ c.requires.y }

pub returns-in-R270-clause-point : goal.returns-in-R270-clause-point
unfolding oriented_point
returns-in-R270-clause-point c =
    rw c.in-R270.is (λ k. record { x = kept_twice _ c.requires.y k; y = negated _ c.requires.x k })

pub returns-in-R270-clause-in_plane : goal.returns-in-R270-clause-in_plane
returns-in-R270-clause-in_plane c =
    record { x = kept_coordinate _ c.requires.y; y = negated_coordinate _ c.requires.x }

pub returns-in-M0-clause-point : goal.returns-in-M0-clause-point
unfolding oriented_point
returns-in-M0-clause-point c =
    rw c.in-M0.is (λ k. record { x = kept _ c.requires.x k; y = negated _ c.requires.y k })

pub returns-in-M0-clause-in_plane : goal.returns-in-M0-clause-in_plane
returns-in-M0-clause-in_plane c =
    record { x = kept_coordinate _ c.requires.x; y = negated_coordinate _ c.requires.y }

pub returns-in-M90-clause-point : goal.returns-in-M90-clause-point
unfolding oriented_point
returns-in-M90-clause-point c =
    rw c.in-M90.is (λ k. record { x = kept_twice _ c.requires.y k; y = kept _ c.requires.x k })

pub returns-in-M90-clause-in_plane : goal.returns-in-M90-clause-in_plane
returns-in-M90-clause-in_plane c =
    record { x = kept_coordinate _ c.requires.y; y = kept_coordinate _ c.requires.x }

pub returns-in-M180-clause-point : goal.returns-in-M180-clause-point
unfolding oriented_point
returns-in-M180-clause-point c =
    rw c.in-M180.is (λ k. record { x = negated _ c.requires.x k; y = kept_twice _ c.requires.y k })

pub returns-in-M180-clause-in_plane : goal.returns-in-M180-clause-in_plane
returns-in-M180-clause-in_plane c =
    record { x = negated_coordinate _ c.requires.x; y = kept_coordinate _ c.requires.y }

pub returns-in-M270-clause-point : goal.returns-in-M270-clause-point
unfolding oriented_point
returns-in-M270-clause-point c =
    rw c.in-M270.is (λ k. record { x = negated_thrice _ c.requires.y k; y = negated _ c.requires.x k })

pub returns-in-M270-clause-in_plane : goal.returns-in-M270-clause-in_plane
returns-in-M270-clause-in_plane c =
    record { x = negated_coordinate _ c.requires.y; y = negated_coordinate _ c.requires.x }
