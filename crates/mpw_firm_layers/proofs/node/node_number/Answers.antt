-- Answers to the goals of `node_number` in `src/node.rt`.
use Rattle.std.specs.List.{sum_by}
use Rattle.mpw_seen.specs.Internal.Counts.{child_number}
use Rattle.mpw_seen.proofs.Sums.{told_more}
use Rattle.mpw_firm_layers.specs.Internal.Counts.{one_if}
use Rattle.mpw_firm_layers.proofs.node.node_number.Goals as goal

pub loop-child-preserved : goal.loop-child-preserved
loop-child-preserved c =
    told_more (child_number c.args.elements.now c.args.own.now c.args.outer.now)
    (sum_by (one_if c.args.layer) c.args.elements.now) c.args.children.now
    c.loop-child.child-index _ _ _ _ c.loop-child-test.true c.loop-child.invariant
    c.child_number.ensures c.saturating_add-number.ensures
