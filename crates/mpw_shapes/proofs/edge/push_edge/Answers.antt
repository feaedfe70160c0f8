-- Answers to the goals of `push_edge` in `src/edge.rt`.
use Rattle.std.proofs.Common.{ap, arith}
use Rattle.std.proofs.lemmas.Int.{ints}
use Rattle.mpw_shapes.proofs.Chains.{up_pushed_up, up_pushed_down, down_pushed_up, down_pushed_down, none_pushed, ends_pushed}
use Rattle.mpw_shapes.specs.declared.edge.Edge.{Edge}
use Rattle.mpw_shapes.proofs.edge.push_edge.Goals as goal

pub returns-in_ok-push-clause-up : goal.returns-in_ok-push-clause-up
returns-in_ok-push-clause-up c =
    λ s. up_pushed_up _ _ c.args.from c.args.to _ s c.between.ensures c.in_ok-push.ensures.items

pub returns-in_ok-push-clause-down : goal.returns-in_ok-push-clause-down
returns-in_ok-push-clause-down c =
    λ s. up_pushed_down _ _ c.args.from c.args.to _ s c.between.ensures c.in_ok-push.ensures.items
    (omega (arith, ints))

pub returns-in_ok-push-clause-ends : goal.returns-in_ok-push-clause-ends
returns-in_ok-push-clause-ends c =
    λ heights l h all. ends_pushed heights _ _ _ c.args.from.y c.args.to.y
    c.in_ok-push.ensures.items (ap (λ (e : Edge). e.low) c.between.ensures)
    (ap (λ (e : Edge). e.high) c.between.ensures) l h all

pub returns-in_ok-push-2-clause-up : goal.returns-in_ok-push-2-clause-up
returns-in_ok-push-2-clause-up c =
    λ s. down_pushed_up _ _ c.args.from c.args.to _ s c.between-then-to-from.ensures
    c.in_ok-push-2.ensures.items (omega (arith, ints))

pub returns-in_ok-push-2-clause-down : goal.returns-in_ok-push-2-clause-down
returns-in_ok-push-2-clause-down c =
    λ s. down_pushed_down _ _ c.args.from c.args.to _ s c.between-then-to-from.ensures
    c.in_ok-push-2.ensures.items

pub returns-in_ok-push-2-clause-ends : goal.returns-in_ok-push-2-clause-ends
returns-in_ok-push-2-clause-ends c =
    λ heights h l all. ends_pushed heights _ _ _ c.args.to.y c.args.from.y
    c.in_ok-push-2.ensures.items (ap (λ (e : Edge). e.low) c.between-then-to-from.ensures)
    (ap (λ (e : Edge). e.high) c.between-then-to-from.ensures) l h all

pub returns-else-to-from-clause-up : goal.returns-else-to-from-clause-up
returns-else-to-from-clause-up c = λ s. none_pushed _ s c.args.from c.args.to (omega (arith, ints))

pub returns-else-to-from-clause-down : goal.returns-else-to-from-clause-down
returns-else-to-from-clause-down c =
    λ s. none_pushed _ s c.args.to c.args.from (omega (arith, ints))
