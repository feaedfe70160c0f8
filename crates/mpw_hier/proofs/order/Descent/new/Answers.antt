-- Answers to the goals of `Descent::new` in `src/order.rt`.
use Rattle.mpw_hier.proofs.Steps.{begun_at}
use Rattle.mpw_hier.proofs.order.Descent.new.Goals as goal

pub returns-clause-under_way : goal.returns-clause-under_way
returns-clause-under_way c =
    rw (
      c.in_ok-left.ensures,
      c.count.ensures.count,
      c.in_ok-push.ensures.items,
      c.new-path.ensures.items,
      c.new-order.ensures.items,
    )
    (begun_at c.args.graph.now c.args.top c.requires)
