-- Answers to the goals of `answer_count` in `src/tiles.rt`.
use Rattle.std.proofs.Common.{length, refl, arith}
use Rattle.std.proofs.lemmas.Option.{slice_get_read}
use Rattle.mpw_run.proofs.TileLists.{count_more, count_within}
use Rattle.mpw_run.proofs.tiles.answer_count.Goals as goal

pub overflow_add-count : goal.overflow_add-count
overflow_add-count c =
    let xs = c.args.tiles.now in
    let i = c.loop-i.i in
    let x = c.index-tiles-i.result in
    let at = slice_get_read xs (length xs) i x refl c.loop-i-test.true c.index-tiles-i.is in
    omega (arith, count_more xs i x at, count_within xs i x at)

pub loop-i-preserved : goal.loop-i-preserved
loop-i-preserved c =
    let xs = c.args.tiles.now in
    let i = c.loop-i.i in
    let x = c.index-tiles-i.result in
    let at = slice_get_read xs (length xs) i x refl c.loop-i-test.true c.index-tiles-i.is in
    omega (arith, count_more xs i x at)
