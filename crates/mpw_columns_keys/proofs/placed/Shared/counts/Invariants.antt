-- The invariants of the loops of `Shared::counts` in `src/placed.rt`.
use Rattle.std.proofs.Common.{◌≡◌, ◌≤◌, map}
use Rattle.std.specs.List.{range_with_len}
use Rattle.mpw_columns_keys.specs.Firsts.{capped, rule_counted}
use Rattle.mpw_columns_keys.proofs.placed.Shared.counts.Given as goal

abbrev pub invariant-loop-rule : goal.invariant-loop-rule
invariant-loop-rule l = (l.rule ≤ l.fn.rules)
    × (l.counts.items
    ≡ map (λ rule. capped (rule_counted l.fn.self.firsts.now l.fn.self.upright.now
    l.fn.self.across.now rule))
    (range_with_len 0 l.rule))
