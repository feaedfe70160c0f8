-- The invariants of the loops of `placed_pairs` in `src/renumber.rt`.
use Rattle.std.proofs.Common.{◌≡◌, map, take}
use Rattle.mpw_roles.specs.Internal.Table.{placed_pair}
use Rattle.mpw_roles.proofs.renumber.placed_pairs.Given as goal

abbrev pub invariant-loop-pair : goal.invariant-loop-pair
invariant-loop-pair l = l.placed.items ≡ map (placed_pair l.order) (take l.pair-index l.pairs)
