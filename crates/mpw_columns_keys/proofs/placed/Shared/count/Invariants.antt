-- The invariants of the loops of `Shared::count` in `src/placed.rt`.
use Rattle.std.proofs.Common.{◌≡◌, ◌≤◌, sum_by, take}
use Rattle.std.specs.List.{range_with_len}
use Rattle.mpw_columns_keys.specs.Firsts.{capped, rule_counted}
use Rattle.mpw_columns_keys.proofs.placed.Shared.count.Given as goal

abbrev pub invariant-loop-rule : goal.invariant-loop-rule
invariant-loop-rule l = (l.rule ≤ l.fn.rules) × (l.count
    ≡ capped (sum_by (rule_counted l.fn.self.firsts.now l.fn.self.upright.now l.fn.self.across.now)
    (take l.rule (range_with_len 0 l.fn.rules))))
