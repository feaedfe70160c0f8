-- Answers to the goals of `are_in_order` in `src/keys.rt`.
use Rattle.std.proofs.Common.{rules}
use Rattle.mpw_columns_keys.proofs.Ordered.{next_place, all_passed}
use Rattle.mpw_columns_keys.proofs.keys.are_in_order.Goals as goal

pub loop-place-preserved : goal.loop-place-preserved
loop-place-preserved c =
    next_place c.args.keys.now c.loop-place.place _ c.loop-place.auto.place c.loop-place-test.true
    c.key_order.result c.key_order.ensures _ c.loop-place.invariant (search rules)

pub returns : goal.returns
returns c = all_passed c.args.keys.now c.loop-place.place _ c.loop-place-test.false c.loop-place.invariant
