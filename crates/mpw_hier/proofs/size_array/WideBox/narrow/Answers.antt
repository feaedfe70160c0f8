-- Answers to the goals of `WideBox::narrow` in `src/size_array.rt`.
use Rattle.std.proofs.Common.{arith}
use Rattle.std.proofs.lemmas.Int.{ints}
use Rattle.mpw_geom.proofs.Boxes.{same_box}
use Rattle.mpw_hier.proofs.Nearness.{close_box}
use Rattle.mpw_hier.proofs.size_array.WideBox.narrow.Goals as goal

pub overflow_cast-result : goal.overflow_cast-result
overflow_cast-result c =
    let h = close_box _ c.requires in
    omega (arith, ints)

pub overflow_cast-result-2 : goal.overflow_cast-result-2
overflow_cast-result-2 c =
    let h = close_box _ c.requires in
    omega (arith, ints)

pub overflow_cast-result-3 : goal.overflow_cast-result-3
overflow_cast-result-3 c =
    let h = close_box _ c.requires in
    omega (arith, ints)

pub overflow_cast-result-4 : goal.overflow_cast-result-4
overflow_cast-result-4 c =
    let h = close_box _ c.requires in
    omega (arith, ints)

pub returns : goal.returns
returns c =
    let h = close_box _ c.requires in
    same_box _ _ (omega (arith, ints)) (omega (arith, ints)) (omega (arith, ints))
    (omega (arith, ints))
