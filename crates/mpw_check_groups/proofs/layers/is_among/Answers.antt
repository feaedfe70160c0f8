-- Answers to the goals of `is_among` in `src/layers.rt`.
use Rattle.std.proofs.Common.{◌∙◌, sym}
use Rattle.mpw_check_groups.proofs.Named.{found_at, none_left, none_more}
use Rattle.mpw_check_groups.proofs.layers.is_among.Goals as goal

pub loop-own-preserved : goal.loop-own-preserved
loop-own-preserved c =
    none_more c.args.layers.now c.loop-own.own-index _ c.args.layer c.loop-own-test.true
    c.loop-own.invariant (sym c.same_layer.ensures ∙ c.if-same_layer.false)

pub returns-then-same_layer : goal.returns-then-same_layer
returns-then-same_layer c =
    sym (found_at c.args.layers.now c.loop-own.own-index _ c.args.layer c.loop-own-test.true
    (sym c.same_layer.ensures ∙ c.if-same_layer.true))

pub returns : goal.returns
returns c =
    sym (none_left c.args.layers.now c.loop-own.own-index c.args.layer c.loop-own-test.false
    c.loop-own.invariant)
