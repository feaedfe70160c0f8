-- Answers to the goals of `share` in `src/range.rt`.
use Rattle.std.proofs.Common.{◌≤◌, ◌-◌, arith}
use Rattle.mpw_firm_spread.proofs.Shares.{borders_grow}
use Rattle.mpw_firm_spread.proofs.range.share.Goals as goal

pub returns-clause-ordered : goal.returns-clause-ordered
returns-clause-ordered c =
    let grow = borders_grow (c.args.number - 1) c.args.number c.args.count c.args.costs.now
    (omega arith) in
    omega (arith, grow, c.border.ensures.border, c.border-2.ensures.border)
