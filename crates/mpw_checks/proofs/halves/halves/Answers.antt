-- Answers to the goals of `halves` in `src/halves.rt`.
use Rattle.std.proofs.Common.{sym, subst}
use Rattle.mpw_geom.specs.declared.plane.Box2.{Box2}
use Rattle.mpw_geom.specs.Plane.{IsBoxInPlane}
use Rattle.mpw_checks.specs.Internal.Cells.{AreHalves, left_of}
use Rattle.mpw_checks.proofs.Halving.{column_halves, in_plane_columns}
use Rattle.mpw_checks.proofs.halves.halves.Goals as goal

pub returns-clause-cores : goal.returns-clause-cores
returns-clause-cores c =
    subst (λ (low : Box2). AreHalves c.args.core.now low c.columns.result.1)
    (sym c.columns.ensures.low)
    (subst (λ (high : Box2). AreHalves c.args.core.now (left_of c.args.core.now c.middle-at.result)
    high) (sym c.columns.ensures.high)
    (column_halves c.args.core.now c.middle-at.result c.middle-at.ensures))

pub returns-clause-low : goal.returns-clause-low
returns-clause-low c = subst (λ (b : Box2). IsBoxInPlane b) (sym c.columns.ensures.low)
    (in_plane_columns c.args.core.now c.middle-at.result c.requires c.middle-at.ensures).0

pub returns-clause-high : goal.returns-clause-high
returns-clause-high c = subst (λ (b : Box2). IsBoxInPlane b) (sym c.columns.ensures.high)
    (in_plane_columns c.args.core.now c.middle-at.result c.requires c.middle-at.ensures).1
