-- The invariants of the loops of `displaced_keys` in `src/keys.rt`.
use Rattle.std.proofs.Common.{◌≡◌, map, take}
use Rattle.mpw_columns_keys.specs.Keys.{displaced_key}
use Rattle.mpw_columns_keys.proofs.keys.displaced_keys.Given as goal

abbrev pub invariant-loop-key : goal.invariant-loop-key
invariant-loop-key l = l.displaced.items ≡ map (displaced_key l.by) (take l.key-index l.keys)
