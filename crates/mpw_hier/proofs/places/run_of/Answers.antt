-- Answers to the goals of `run_of` in `src/places.rt`.
use Rattle.std.proofs.Common.{arith}
use Rattle.mpw_hier.proofs.Runs.{numbers_next}
use Rattle.mpw_hier.proofs.places.run_of.Goals as goal

pub loop-index-preserved : goal.loop-index-preserved
loop-index-preserved c =
    numbers_next _ c.loop-index.index c.args.places.now 0 c.loop-index-test.true
    c.loop-index.invariant (omega (arith, c.if-places-index.false))
