-- Answers to the goals of `Box2::shares_row` in `src/plane.rt`.
use Rattle.std.proofs.Common.{rules}
use Rattle.mpw_geom.proofs.Meets.{spans_meet}
use Rattle.mpw_geom.proofs.plane.Box2.shares_row.Goals as goal

pub returns : goal.returns
returns c =
    let a = c.args.self in
    let b = c.args.other in
    spans_meet a.y0 b.y0 a.y1 b.y1 c.max.result c.min.result (search rules) (search rules)
    (search rules) (search rules) (search rules) (search rules) c.max.ensures.value
    c.min.ensures.value
