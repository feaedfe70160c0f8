-- Answers to the goals of `node_lists` in `src/gathered.rt`.
use Rattle.std.proofs.Common.{refl, ◌∙◌}
use Rattle.std.proofs.lemmas.Option.{slice_get_read}
use Rattle.mpw_firm_layers.specs.Internal.Gathered.{node_layers}
use Rattle.mpw_firm_layers.proofs.Values.{values_more}
use Rattle.mpw_firm_layers.proofs.gathered.node_lists.Goals as goal

pub loop-node-preserved : goal.loop-node-preserved
loop-node-preserved c =
    values_more (node_layers c.args.rules.now c.args.outer.now) c.args.structures.now
    c.args.nodes.now c.loop-node.node-index c.node-item.result _ _ _ c.loop-node.invariant
    (slice_get_read c.args.nodes.now _ _ _ refl c.loop-node-test.true c.node-item.is)
    (c.in_ok-list.ensures ∙ rw (
      c.elements_at-elements.ensures,
      c.deref.ensures.value,
      c.deref-in-loop-node.ensures.value,
    ) refl)
    c.in_ok-push.ensures.items
