-- Answers to the goals of `children_number` in `src/node.rt`.
use Rattle.mpw_seen.specs.Internal.Counts.{child_number}
use Rattle.mpw_seen.proofs.Sums.{told_more, told_none}
use Rattle.mpw_seen.proofs.node.children_number.Goals as goal

pub loop-child-init : goal.loop-child-init
loop-child-init c = told_none c.args.first c.ranges.first.fits

pub loop-child-preserved : goal.loop-child-preserved
loop-child-preserved c =
    told_more (child_number c.args.elements.now c.args.own.now c.args.outer.now) c.args.first
    c.args.children.now c.loop-child.child-index _ _ _ _ c.loop-child-test.true
    c.loop-child.invariant c.child_number.ensures c.saturating_add-number.ensures
