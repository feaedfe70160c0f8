-- Answers to the goals of `add_keys` in `src/find.rt`.
use Rattle.std.proofs.Common.{◌∙◌, ◌++◌, map, ap}
use Rattle.std.proofs.lemmas.List.{take_all}
use Rattle.mpw_job.specs.Answers.{key_at}
use Rattle.mpw_work.proofs.Adding.{adds_one}
use Rattle.mpw_work.proofs.find.add_keys.Goals as goal

pub loop-run-preserved : goal.loop-run-preserved
loop-run-preserved c =
    rw c.in_ok-push.ensures.items
    (adds_one c.args.place c.args.runs.now c.loop-run.run-index _ c.args.keys.now.items
    c.loop-run.keys.items c.loop-run-test.true c.loop-run.invariant)

pub returns : goal.returns
returns c =
    c.loop-run.invariant ∙ ap (λ ys. c.args.keys.now.items ++ map (key_at c.args.place) ys)
    (take_all c.loop-run.run-index c.args.runs.now c.loop-run-test.false)
