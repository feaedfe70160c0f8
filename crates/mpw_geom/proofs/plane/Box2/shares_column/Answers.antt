-- Answers to the goals of `Box2::shares_column` in `src/plane.rt`.
use Rattle.std.proofs.Common.{rules}
use Rattle.mpw_geom.proofs.Meets.{spans_meet}
use Rattle.mpw_geom.proofs.plane.Box2.shares_column.Goals as goal

pub returns : goal.returns
returns c =
    let a = c.args.self in
    let b = c.args.other in
    spans_meet a.x0 b.x0 a.x1 b.x1 c.max.result c.min.result (search rules) (search rules)
    (search rules) (search rules) (search rules) (search rules) c.max.ensures.value
    c.min.ensures.value
