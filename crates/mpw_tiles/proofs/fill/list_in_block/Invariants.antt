-- The invariants of the loops of `list_in_block` in `src/fill.rt`.
use Rattle.std.proofs.Common.{◌≤◌, max}
use Rattle.mpw_tiles.specs.Internal.Listing.{Lists, IsInRows}
use Rattle.mpw_tiles.proofs.fill.list_in_block.Given as goal

abbrev pub invariant-loop-row : goal.invariant-loop-row
invariant-loop-row l = (Lists l.initial.lists.items l.lists.items l.rectangle
    (IsInRows l.plan.grid l.block l.row)) × (l.row ≤ max l.block.row0 l.block.row1)
