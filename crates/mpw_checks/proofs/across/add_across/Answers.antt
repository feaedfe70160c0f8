-- Answers to the goals of `add_across` in `src/across.rt`.
use Rattle.std.proofs.Common.{subst, sym, take, List, ◌+◌}
use Rattle.mpw_geom.specs.declared.plane.Box2.{Box2}
use Rattle.mpw_checks.proofs.Rows.{HasAdded, HasAdded-none, HasAdded-push, HasAdded-end}
use Rattle.mpw_checks.proofs.across.add_across.Goals as goal

pub loop-run-init : goal.loop-run-init
loop-run-init c = HasAdded-none c.args.window.now c.args.boxes.now.items

pub loop-run-preserved : goal.loop-run-preserved
loop-run-preserved c =
    subst (λ (bs : List Box2). HasAdded c.args.window.now c.args.boxes.now.items bs
    (take (c.loop-run.run-index + 1) c.args.runs.now)) (sym c.in_ok-push.ensures.items)
    (HasAdded-push c.args.window.now c.args.boxes.now.items c.loop-run.boxes.items
    c.args.runs.now c.loop-run.run-index c.across.result c.loop-run-test.true
    c.loop-run.invariant
    (record {
      left = c.across.ensures.left;
      right = c.across.ensures.right;
      from = c.across.ensures.from;
      to = c.across.ensures.to;
    }))

pub returns : goal.returns
returns c = (HasAdded-end c.args.window.now c.args.boxes.now.items c.loop-run.boxes.items
    c.args.runs.now c.loop-run.run-index c.loop-run-test.false c.loop-run.invariant).squares
