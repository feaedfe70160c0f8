-- Answers to the goals of `drawn_count` in `src/density.rt`.
use Rattle.std.proofs.Common.{arith}
use Rattle.mpw_firm_picture.proofs.Counted.{drawn_more}
use Rattle.mpw_firm_picture.proofs.density.drawn_count.Goals as goal

pub loop-place-preserved : goal.loop-place-preserved
loop-place-preserved c =
    let more = drawn_more c.args.limit c.loop-place.place c.args.marks.now in
    let drawn = c.loop-place.invariant.0 in
    let few = c.loop-place.invariant.1 in
    (omega (arith, more, c.min.ensures, c.count_of.ensures), omega arith)
