-- Answers to the goals of `Shared::counts` in `src/placed.rt`.
use Rattle.std.proofs.Common.{◌≡◌, ◌∙◌, ℕ, map, ap, arith}
use Rattle.std.specs.List.{range_with_len}
use Rattle.mpw_columns_keys.specs.Firsts.{capped, rule_counted}
use Rattle.mpw_columns_keys.proofs.Room.{next_number}
use Rattle.mpw_columns_keys.proofs.placed.Shared.counts.Goals as goal

pub loop-rule-preserved : goal.loop-rule-preserved
loop-rule-preserved c =
    let shared = c.args.self.now in (
      omega (arith, c.loop-rule-test.true),
      next_number
          (λ rule. capped (rule_counted shared.firsts.now shared.upright.now shared.across.now rule))
          c.loop-rule.rule c.count_rule.result c.loop-rule.counts.items c.push.new.self.items
          c.loop-rule.invariant.1 c.count_rule.ensures c.in_ok-push.ensures.items,
    )

pub returns : goal.returns
returns c =
    let shared = c.args.self.now in
    let of = λ (rule : ℕ). capped (rule_counted shared.firsts.now shared.upright.now shared.across.now rule) in
    let reached = c.loop-rule.invariant.0 in
    let all : c.loop-rule.rule ≡ c.args.rules = omega (arith, reached, c.loop-rule-test.false) in
    c.loop-rule.invariant.1 ∙ ap (λ (n : ℕ). map of (range_with_len 0 n)) all
