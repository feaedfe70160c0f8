-- The invariants of the loops of `Together::add_keys` in `src/placed.rt`.
use Rattle.std.proofs.Common.{◌≡◌, ◌++◌, map, take}
use Rattle.mpw_columns_keys.specs.Keys.{displaced_key, of_first}
use Rattle.mpw_columns_keys.proofs.placed.Together.add_keys.Given as goal

abbrev pub invariant-loop-key : goal.invariant-loop-key
invariant-loop-key l = (l.self.room ≡ l.initial.self.room)
    × (l.self.markers.items
    ≡ l.initial.self.markers.items ++ map of_first
    (map (displaced_key l.by) (take l.key-index l.first)))
