-- The invariants of the loops of `layers_of` in `src/look.rt`.
use Rattle.std.proofs.Common.{take}
use Rattle.std.specs.Prelude.{All}
use Rattle.mpw_columns.specs.Found.{HasLayers}
use Rattle.mpw_columns.proofs.look.layers_of.Given as goal

abbrev pub invariant-loop-rule : goal.invariant-loop-rule
invariant-loop-rule l = All (λ rule. HasLayers l.layers.items rule.check) (take l.rule-index l.rules)
