-- The invariants of the loops of `layers_of_rules` in `src/layers.rt`.
use Rattle.std.proofs.Common.{◌≡◌, take}
use Rattle.mpw_geom.specs.declared.plane.Layer.{Layer}
use Rattle.mpw_check_groups.specs.Layers.{is_among, is_named}
use Rattle.mpw_check_groups.proofs.layers.layers_of_rules.Given as goal

abbrev pub invariant-loop-rule : goal.invariant-loop-rule
invariant-loop-rule l =
    (layer : Layer) → is_among l.layers.items layer ≡ is_named (take l.rule-index l.rules) layer
