-- Answers to the goals of `node_numbers` in `src/node.rt`.
use Rattle.std.proofs.Common.{refl, ◌∙◌}
use Rattle.std.proofs.lemmas.Option.{slice_get_read}
use Rattle.mpw_firm_layers.specs.Internal.Counts.{node_number}
use Rattle.mpw_firm_layers.proofs.Values.{values_more}
use Rattle.mpw_firm_layers.proofs.node.node_numbers.Goals as goal

pub loop-node-preserved : goal.loop-node-preserved
loop-node-preserved c =
    values_more (node_number c.args.layer c.args.outer.now) c.args.structures.now c.args.nodes.now
    c.loop-node.node-index c.node-item.result _ _ _ c.loop-node.invariant
    (slice_get_read c.args.nodes.now _ _ _ refl c.loop-node-test.true c.node-item.is)
    (c.node_number-number.ensures ∙ rw (
      c.elements_at-elements.ensures,
      c.deref.ensures.value,
      c.deref-in-loop-node.ensures.value,
    ) refl)
    c.in_ok-push.ensures.items
