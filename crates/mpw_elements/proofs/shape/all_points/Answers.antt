-- Answers to the goals of `all_points` in `src/shape.rt`.
use Rattle.std.proofs.Common.{◌∷◌, [], ◌++◌, ap, arith}
use Rattle.std.proofs.lemmas.List.FromFn.{map-range_with_len_more}
use Rattle.mpw_elements.specs.Values.{point_at}
use Rattle.mpw_elements.proofs.shape.all_points.Goals as goal

pub loop-index-preserved : goal.loop-index-preserved
loop-index-preserved c =
    let more = map-range_with_len_more (point_at c.args.unit c.args.bytes.now) 0 c.loop-index.index
    c.loop-index.index (omega arith) in
    rw (c.in_ok-push.ensures.items, c.point.ensures.point, more)
    (ap (λ ps. ps ++ point_at c.args.unit c.args.bytes.now c.loop-index.index ∷ [])
    c.loop-index.invariant)
