-- Answers to the goals of `are_apart` in `src/runs.rt`.
use Rattle.std.proofs.Common.{◌-◌, get_or, subst, arith, length-take}
use Rattle.std.specs.Prelude.{AllPairs}
use Rattle.std.proofs.lemmas.Bool.Decides.{when_false}
use Rattle.std.proofs.lemmas.List.{take_all}
use Rattle.mpw_region.specs.Runs.{StandsBefore}
use Rattle.mpw_region.proofs.Joins.{no_run, apart_more, before_from_unreached}
use Rattle.mpw_region.proofs.runs.are_apart.Goals as goal

pub loop-k-init : goal.loop-k-init
loop-k-init c = λ i j d lt within. absurd (omega (arith, length-take 1 c.args.runs.now))

pub loop-k-preserved : goal.loop-k-preserved
loop-k-preserved c =
    let runs = c.args.runs.now in
    let k = c.loop-k.k in
    apart_more runs k c.requires.filled c.loop-k.auto.k c.loop-k-test.true c.loop-k.invariant
    (before_from_unreached (get_or runs (k - 1) no_run) (get_or runs k no_run)
    (c.requires.ordered (k - 1) k no_run (omega arith) c.loop-k-test.true)
    (when_false _ _ c.if-reaches.false c.reaches.ensures))

pub returns : goal.returns
returns c = λ t. record {
  filled = c.requires.filled;
  ordered = subst (AllPairs StandsBefore)
      (take_all c.loop-k.k c.args.runs.now c.loop-k-test.false) c.loop-k.invariant;
}
