-- The invariants of the loops of `moved_keys` in `src/kept.rt`.
use Rattle.std.proofs.Common.{◌≡◌, map, take}
use Rattle.mpw_columns.specs.Internal.Pieces.{moved_key}
use Rattle.mpw_columns.proofs.kept.moved_keys.Given as goal

abbrev pub invariant-loop-key : goal.invariant-loop-key
invariant-loop-key l = l.moved.items ≡ map (moved_key l.way) (take l.key-index l.keys)
