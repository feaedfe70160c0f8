-- Answers to the goals of `together` in `src/lists.rt`.
use Rattle.std.proofs.Common.{◌≡◌, ℕ, map, ap, ◌∙◌, arith}
use Rattle.mpw_columns_keys.specs.Keys.{together, of_first}
use Rattle.mpw_columns_keys.proofs.Added.{next_rule}
use Rattle.mpw_columns_keys.proofs.lists.together.Goals as goal

pub loop-rule-init : goal.loop-rule-init
loop-rule-init c = (omega arith, c.in_ok-markers.ensures.items)

pub loop-rule-preserved : goal.loop-rule-preserved
loop-rule-preserved c = (
  omega (arith, c.loop-rule-test.true),
  next_rule c.args.upright.now c.args.across.now c.loop-rule.rule c.loop-rule.markers.items
      c.add_rule.new.markers.items c.loop-rule.invariant.1 c.in_ok-add_rule.ensures,
)

pub returns : goal.returns
returns c =
    let reached = c.loop-rule.invariant.0 in
    let all : c.loop-rule.rule ≡ c.args.rules = omega (arith, reached, c.loop-rule-test.false) in
    c.loop-rule.invariant.1
    ∙ ap (λ (n : ℕ). map of_first (together n c.args.upright.now c.args.across.now)) all
