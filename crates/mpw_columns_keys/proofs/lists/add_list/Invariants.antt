-- The invariants of the loops of `add_list` in `src/lists.rt`.
use Rattle.std.proofs.Common.{◌≡◌, ◌++◌, map, take}
use Rattle.mpw_columns_keys.specs.Keys.{list_of, of_first}
use Rattle.mpw_columns_keys.proofs.lists.add_list.Given as goal

abbrev pub invariant-loop-list : goal.invariant-loop-list
invariant-loop-list l = l.markers.items
    ≡ l.initial.markers.items ++ map of_first (list_of l.fn.number (take l.list-index l.lists))
