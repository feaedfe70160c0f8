-- The invariants of the loops of `windows_from` in `src/listing.rt`.
use Rattle.std.proofs.Common.{◌≡◌, ◌++◌}
use Rattle.mpw_tiles.proofs.listing.windows_from.Given as goal

abbrev pub invariant-loop-list : goal.invariant-loop-list
invariant-loop-list l = l.items.items ++ l.list-iterator.rest.items ≡ l.fn.lists.items
