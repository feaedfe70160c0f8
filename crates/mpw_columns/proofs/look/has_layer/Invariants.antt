-- The invariants of the loops of `has_layer` in `src/look.rt`.
use Rattle.std.proofs.Common.{◌≡◌, take}
use Rattle.std.specs.Prelude.{All}
use Rattle.mpw_columns.proofs.look.has_layer.Given as goal

abbrev pub invariant-loop-other : goal.invariant-loop-other
invariant-loop-other l = All (λ other. other ≡ l.layer → ⊥) (take l.other-index l.layers)
