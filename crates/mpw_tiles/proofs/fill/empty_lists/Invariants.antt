-- The invariants of the loops of `empty_lists` in `src/fill.rt`.
use Rattle.std.proofs.Common.{◌≡◌, [], length}
use Rattle.std.specs.Prelude.{All}
use Rattle.mpw_tiles.proofs.fill.empty_lists.Given as goal

abbrev pub invariant-loop-tile : goal.invariant-loop-tile
invariant-loop-tile l = (length l.lists.items ≡ l.tile) × (All (λ w. w ≡ []) l.lists.items)
