-- Answers to the goals of `border` in `src/range.rt`.
use Rattle.std.proofs.Common.{◌≡◌, ◌∙◌, ◌≤◌, ◌+◌, ◌-◌, ◌*◌, length, drop, get_or, ap, sym, arith}
use Rattle.mpw_firm_spread.specs.Ranges.{reach_of}
use Rattle.mpw_firm_spread.proofs.Reach.{reach_none, reach_step, reach_end}
use Rattle.mpw_firm_spread.proofs.range.border.Goals as goal

pub returns-then-wanted-eq0-clause-border : goal.returns-then-wanted-eq0-clause-border
returns-then-wanted-eq0-clause-border c =
    let left = drop c.loop-index.index c.args.costs.now in
    let none : reach_of c.args.count c.loop-index.wanted left ≡ 0 =
    ap (λ n. reach_of c.args.count n left) c.if-wanted-eq0.true ∙ reach_none c.args.count left in
    omega (arith, none, c.loop-index.invariant.1)

pub loop-index-preserved : goal.loop-index-preserved
loop-index-preserved c =
    let index = c.loop-index.index in
    let costs = c.args.costs.now in
    let some : 1 ≤ c.loop-index.wanted = omega (arith, c.if-wanted-eq0.false) in
    let step =
    reach_step c.args.count c.loop-index.wanted costs index 0 some c.loop-index-test.true in
    let less = c.saturating_sub-wanted.ensures in
    let count = c.from-in-loop-index.ensures in
    let cost = c.from-in-loop-index-2.ensures in
    let left : c.saturating_sub-wanted.result
    ≡ c.loop-index.wanted - c.args.count * get_or costs index 0 = cc in
    let same = ap (λ n. reach_of c.args.count n (drop (index + 1) costs)) left in (
      omega (arith, c.loop-index-test.true),
      omega (arith, step, same, c.loop-index.invariant.1),
    )

pub returns-clause-border : goal.returns-clause-border
returns-clause-border c =
    let index = c.loop-index.index in
    let end = reach_end c.args.count c.loop-index.wanted c.args.costs.now index
    (omega (arith, c.loop-index-test.false)) in
    omega (arith, end, c.loop-index.invariant.0, c.loop-index.invariant.1, c.loop-index-test.false)
