-- Answers to the goals of `window_of` in `src/part.rt`.
use Rattle.std.proofs.Common.{◌+◌, arith}
use Rattle.std.proofs.lemmas.Int.{ints}
use Rattle.mpw_geom.proofs.Boxes.{same_box}
use Rattle.mpw_columns_keys.specs.Columns.{across}
use Rattle.mpw_columns.proofs.part.window_of.Goals as goal

pub returns : goal.returns
returns c =
    let from = c.from-margin.ensures in
    same_box _ (across c.args.core.now (c.args.distance + 1)) (omega (arith, ints, from))
    (omega (arith, ints)) (omega (arith, ints, from)) (omega (arith, ints))
