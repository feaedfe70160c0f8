-- The invariants of the loops of `is_among` in `src/layers.rt`.
use Rattle.std.proofs.Common.{◌≡◌, take}
use Rattle.std.specs.Prelude.{All}
use Rattle.mpw_columns_contents.proofs.layers.is_among.Given as goal

abbrev pub invariant-loop-other : goal.invariant-loop-other
invariant-loop-other l = All (λ other. other ≡ l.layer → ⊥) (take l.other-index l.layers)
