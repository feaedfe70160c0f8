-- Answers to the goals of `window` in `src/halves.rt`.
use Rattle.std.proofs.Common.{arith}
use Rattle.std.proofs.lemmas.Int.{ints}
use Rattle.mpw_geom.proofs.Boxes.{same_box}
use Rattle.mpw_checks.specs.Internal.Cells.{window_of}
use Rattle.mpw_checks.proofs.halves.window.Goals as goal

pub returns : goal.returns
returns c =
    let from = c.from-margin.ensures in
    same_box _ (window_of c.args.core.now c.args.distance) (omega (arith, ints, from))
    (omega (arith, ints, from)) (omega (arith, ints, from)) (omega (arith, ints, from))
