-- The invariants of the loops of `add_markers` in `src/lists.rt`.
use Rattle.std.proofs.Common.{◌≡◌, ◌++◌, map, take}
use Rattle.mpw_columns_keys.specs.Keys.{of_first}
use Rattle.mpw_columns_keys.proofs.lists.add_markers.Given as goal

abbrev pub invariant-loop-key : goal.invariant-loop-key
invariant-loop-key l =
    l.markers.items ≡ l.initial.markers.items ++ map of_first (take l.key-index l.keys)
