-- Answers to the goals of `Shared::count` in `src/placed.rt`.
use Rattle.std.proofs.Common.{◌≡◌, ◌∙◌, ℕ, ◌+◌, ap, sym, arith}
use Rattle.std.specs.List.{range_with_len}
use Rattle.std.proofs.lemmas.List.FromFn.{length-range_with_len, get_or-range_with_len}
use Rattle.mpw_columns_keys.specs.Firsts.{capped, rule_counted}
use Rattle.mpw_columns_keys.proofs.Room.{capped_same, counted_more, counted_all}
use Rattle.mpw_columns_keys.proofs.placed.Shared.count.Goals as goal

pub loop-rule-preserved : goal.loop-rule-preserved
loop-rule-preserved c =
    let shared = c.args.self.now in
    let of = rule_counted shared.firsts.now shared.upright.now shared.across.now in
    let rules = range_with_len 0 c.args.rules in
    let long = length-range_with_len 0 c.args.rules in
    let at : c.loop-rule.rule ≡ 0 + c.loop-rule.rule = omega arith in (
      omega (arith, c.loop-rule-test.true),
      counted_more of rules c.loop-rule.rule 0 c.loop-rule.count c.count_rule.result
          c.saturating_add-count.result (omega (arith, long, c.loop-rule-test.true))
          c.loop-rule.invariant.1 (capped_same _ _ (c.count_rule.ensures
          ∙ ap (λ (n : ℕ). capped (of n)) (at
          ∙ sym (get_or-range_with_len 0 c.args.rules c.loop-rule.rule 0
          c.loop-rule-test.true)))) c.saturating_add-count.ensures,
    )

pub returns : goal.returns
returns c =
    let shared = c.args.self.now in
    let long = length-range_with_len 0 c.args.rules in
    counted_all (rule_counted shared.firsts.now shared.upright.now shared.across.now)
    (range_with_len 0 c.args.rules) c.loop-rule.rule c.loop-rule.count
    (omega (arith, long, c.loop-rule-test.false)) c.loop-rule.invariant.1
