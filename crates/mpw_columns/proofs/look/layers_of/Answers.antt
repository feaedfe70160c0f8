-- Answers to the goals of `layers_of` in `src/look.rt`.
use Rattle.mpw_columns.proofs.LayersHad.{rule_more, all_rules}
use Rattle.mpw_columns.proofs.look.layers_of.Goals as goal

pub loop-rule-preserved : goal.loop-rule-preserved
loop-rule-preserved c =
    rule_more c.args.rules.now c.loop-rule.rule-index c.rule-item.result c.loop-rule.layers.items
    c.add_layers.new.layers.items c.loop-rule-test.true c.rule-item.is
    c.in_ok-add_layers.ensures.kept c.in_ok-add_layers.ensures.has c.loop-rule.invariant

pub returns : goal.returns
returns c = all_rules c.args.rules.now c.loop-rule.rule-index c.loop-rule.layers.items
    c.loop-rule-test.false c.loop-rule.invariant
