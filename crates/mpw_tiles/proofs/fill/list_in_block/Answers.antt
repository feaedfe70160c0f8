-- Answers to the goals of `list_in_block` in `src/fill.rt`.
use Rattle.std.proofs.Common.{◌+◌, ◌⊎◌, arith}
use Rattle.mpw_tiles.specs.Grid.{column_of, row_of, IsInBlock}
use Rattle.mpw_tiles.specs.Internal.Listing.{IsInRow, IsInRows}
use Rattle.mpw_tiles.proofs.Lists.{Lists-none, Lists-then, Lists-same, rows_more, rows_end, no_row}
use Rattle.mpw_tiles.proofs.fill.list_in_block.Goals as goal

pub loop-row-init : goal.loop-row-init
loop-row-init c = (
  Lists-none c.args.lists.now.items c.args.rectangle.now _
      (no_row c.args.plan.now.grid c.args.block.now),
  omega arith,
)

pub loop-row-preserved : goal.loop-row-preserved
loop-row-preserved c =
    let g = c.args.plan.now.grid in
    let block = c.args.block.now in (
      Lists-same c.args.lists.now.items c.list_in_row.new.lists.items c.args.rectangle.now
          (λ tile. IsInRows g block c.loop-row.row tile ⊎ IsInRow g block.column0 block.column1
          c.loop-row.row tile)
          (IsInRows g block (c.loop-row.row + 1))
          (λ tile. rows_more g block c.loop-row.row tile c.loop-row.auto.row)
          (Lists-then c.args.lists.now.items c.loop-row.lists.items c.list_in_row.new.lists.items
          c.args.rectangle.now (IsInRows g block c.loop-row.row)
          (IsInRow g block.column0 block.column1 c.loop-row.row) c.loop-row.invariant.0
          c.in_ok-list_in_row.ensures.ok),
      (let t = c.loop-row-test.true in omega arith),
    )

pub returns : goal.returns
returns c = record {
  ok = Lists-same c.args.lists.now.items c.loop-row.lists.items c.args.rectangle.now
      (IsInRows c.args.plan.now.grid c.args.block.now c.loop-row.row)
      (λ tile. IsInBlock c.args.block.now (column_of c.args.plan.now.grid tile)
      (row_of c.args.plan.now.grid tile))
      (λ tile. rows_end c.args.plan.now.grid c.args.block.now c.loop-row.row tile
      c.loop-row-test.false c.loop-row.invariant.1)
      c.loop-row.invariant.0;
}
