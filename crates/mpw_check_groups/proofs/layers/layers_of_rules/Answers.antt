-- Answers to the goals of `layers_of_rules` in `src/layers.rt`.
use Rattle.mpw_check_groups.proofs.Named.{named_all, named_more}
use Rattle.mpw_check_groups.proofs.layers.layers_of_rules.Goals as goal

pub loop-rule-preserved : goal.loop-rule-preserved
loop-rule-preserved c =
    named_more c.args.rules.now c.loop-rule.rule-index c.rule-item.result c.loop-rule.layers.items
    c.add_layers.new.layers.items c.loop-rule-test.true c.rule-item.is c.in_ok-add_layers.ensures
    c.loop-rule.invariant

pub returns : goal.returns
returns c =
    named_all c.args.rules.now c.loop-rule.rule-index c.loop-rule.layers.items
    c.loop-rule-test.false c.loop-rule.invariant
