-- Answers to the goals of `rows_along` in `src/skip.rt`.
use Rattle.std.proofs.Common.{w64, SFits}
use Rattle.std.proofs.lemmas.Int.{to_z-of_z}
use Rattle.mpw_walk.proofs.skip.rows_along.Goals as goal

pub returns-then-across-eq0-clause-missed : goal.returns-then-across-eq0-clause-missed
returns-then-across-eq0-clause-missed c =
    let f : SFits w64 c.args.up = c.ranges.up in
    λ k lt. simp to_z-of_z at (c.spans_missed.ensures.missed k lt)
