-- Answers to the goals of `add_rules` in `src/leaf.rt`.
use Rattle.std.proofs.Common.{arith, subst}
use Rattle.mpw_columns.specs.Internal.Bands.{banded_on}
use Rattle.mpw_columns.specs.Internal.Found.{AddsFirst}
use Rattle.mpw_columns.proofs.Keyed.{no_rules, rule_more}
use Rattle.mpw_columns.proofs.leaf.add_rules.Goals as goal

pub loop-place-init : goal.loop-place-init
loop-place-init c = no_rules c.args.look.now.rules.now c.args.look.now.axis
    (banded_on c.args.banded.now) c.args.core c.args.keys.now.items

pub loop-place-preserved : goal.loop-place-preserved
loop-place-preserved c =
    rule_more c.loop-place.place c.args.look.now.rules.now c.args.look.now.axis
    (banded_on c.args.banded.now) c.args.core c.args.keys.now.items c.loop-place.keys.items
    c.add_rule.new.keys.items c.loop-place.invariant c.in_ok-add_rule.ensures

pub returns : goal.returns
returns c =
    let look = c.args.look.now in
    subst (λ n. AddsFirst n look.rules.now look.axis (banded_on c.args.banded.now) c.args.core
    c.args.keys.now.items c.loop-place.keys.items) (omega arith) c.loop-place.invariant
