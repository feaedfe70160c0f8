-- The invariants of the loops of `hull` in `src/search.rt`.
use Rattle.std.proofs.Common.{take}
use Rattle.std.specs.Prelude.{Contains}
use Rattle.mpw_markers.specs.declared.search.Item.{Item}
use Rattle.mpw_markers.specs.Internal.Search.{IsWithin}
use Rattle.mpw_markers.proofs.search.hull.Given as goal

abbrev pub invariant-loop-item : goal.invariant-loop-item
invariant-loop-item l = (i : Item) → Contains (take l.item-index l.items) i → IsWithin i.area l.hull
