-- The invariants of the loops of `list_in_row` in `src/fill.rt`.
use Rattle.std.proofs.Common.{◌≤◌, max}
use Rattle.mpw_tiles.specs.Internal.Listing.{Lists, IsInRow}
use Rattle.mpw_tiles.proofs.fill.list_in_row.Given as goal

abbrev pub invariant-loop-column : goal.invariant-loop-column
invariant-loop-column l = (Lists l.initial.lists.items l.lists.items l.rectangle
    (IsInRow l.plan.grid l.block.column0 l.column l.row))
    × (l.column ≤ max l.block.column0 l.block.column1)
