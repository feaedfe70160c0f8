-- The invariants of the loops of `rule_layers` in `src/layers.rt`.
use Rattle.std.proofs.Common.{◌≡◌, take}
use Rattle.mpw_firm_picture.specs.Looks.{rule_layers}
use Rattle.mpw_firm_picture.proofs.layers.rule_layers.Given as goal

abbrev pub invariant-loop-rule : goal.invariant-loop-rule
invariant-loop-rule l = l.layers.items ≡ rule_layers (take l.rule-index l.rules)
