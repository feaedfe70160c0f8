-- Answers to the goals of `last_along` in `src/size_array.rt`.
use Rattle.std.proofs.Common.{◌≤◌, ◌-◌, sym, subst, rules, arith}
use Rattle.mpw_hier.specs.Internal.SizeParts.{IsWide}
use Rattle.mpw_hier.proofs.Reaching.{product_is, product_wide}
use Rattle.mpw_hier.proofs.size_array.last_along.Goals as goal

pub returns-clause-made : goal.returns-clause-made
returns-clause-made c =
    let most : c.args.count - 1 ≤ 32767 = omega (arith, c.requires.count.most) in
    product_is (c.args.count - 1) c.args.step _ _ most c.requires.step c.from.ensures
    c.from-2.ensures

pub returns-clause-wide : goal.returns-clause-wide
returns-clause-wide c =
    let most : c.args.count - 1 ≤ 32767 = omega (arith, c.requires.count.most) in
    subst IsWide (sym (product_is (c.args.count - 1) c.args.step _ _ most c.requires.step
    c.from.ensures c.from-2.ensures))
    (product_wide (c.args.count - 1) c.args.step most c.requires.step)

pub overflow_sub-count : goal.overflow_sub-count
overflow_sub-count c = search rules

pub overflow_mul-result : goal.overflow_mul-result
overflow_mul-result c = search rules
