-- Answers to the goals of `rules_on` in `src/deck.rt`.
use Rattle.std.proofs.Common.{sym, ap}
use Rattle.mpw_deck.specs.declared.rule.Rule.{Rule}
use Rattle.mpw_firm_grid.proofs.Rules.{is_within}
use Rattle.mpw_firm_grid.proofs.deck.rules_on.Goals as goal

pub rule_on-requires : goal.rule_on-requires
rule_on-requires c =
    rw c.rule-item.is (is_within c.args.parts c.args.rules.now c.loop-rule.rule-index c.rule-item.result
    c.loop-rule-test.true c.requires)
