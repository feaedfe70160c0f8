-- Answers to the goals of `list_in_row` in `src/fill.rt`.
use Rattle.std.proofs.Common.{◌≡◌, ℕ, ◌+◌, ◌*◌, ◌<◌, ◌⊎◌, subst, arith}
use Rattle.mpw_tiles.specs.Grid.{columns}
use Rattle.mpw_tiles.specs.Internal.Listing.{Lists, IsInRow}
use Rattle.mpw_tiles.proofs.Lists.{Lists-none, Lists-then, Lists-same, row_more, row_end, no_column}
use Rattle.mpw_tiles.proofs.fill.list_in_row.Goals as goal

pub loop-column-init : goal.loop-column-init
loop-column-init c = (
  Lists-none c.args.lists.now.items c.args.rectangle.now _
      (no_column c.args.plan.now.grid c.args.block.now.column0 c.args.row),
  omega arith,
)

pub loop-column-preserved : goal.loop-column-preserved
loop-column-preserved c =
    let g = c.args.plan.now.grid in
    let from = c.args.block.now.column0 in
    let u : c.loop-column.column < columns g =
    (let h = c.requires.columns in let t = c.loop-column-test.true in omega arith) in
    let k : Lists c.loop-column.lists.items c.list_at.new.lists.items c.args.rectangle.now
    (λ tile. tile ≡ c.args.row * columns g + c.loop-column.column) =
    subst (λ (n : ℕ). Lists c.loop-column.lists.items c.list_at.new.lists.items c.args.rectangle.now
    (λ tile. tile ≡ n)) c.tile-tile.ensures.number c.in_ok-list_at.ensures.ok in (
      Lists-same c.args.lists.now.items c.list_at.new.lists.items c.args.rectangle.now
          (λ tile. IsInRow g from c.loop-column.column c.args.row tile
          ⊎ (tile ≡ c.args.row * columns g + c.loop-column.column))
          (IsInRow g from (c.loop-column.column + 1) c.args.row)
          (λ tile. row_more g from c.loop-column.column c.args.row tile c.loop-column.auto.column u)
          (Lists-then c.args.lists.now.items c.loop-column.lists.items c.list_at.new.lists.items
          c.args.rectangle.now (IsInRow g from c.loop-column.column c.args.row)
          (λ tile. tile ≡ c.args.row * columns g + c.loop-column.column)
          c.loop-column.invariant.0 k),
      (let t = c.loop-column-test.true in omega arith),
    )

pub returns : goal.returns
returns c = record {
  ok = Lists-same c.args.lists.now.items c.loop-column.lists.items c.args.rectangle.now
      (IsInRow c.args.plan.now.grid c.args.block.now.column0 c.loop-column.column c.args.row)
      (IsInRow c.args.plan.now.grid c.args.block.now.column0 c.args.block.now.column1 c.args.row)
      (λ tile. row_end c.args.plan.now.grid c.args.block.now.column0 c.loop-column.column
      c.args.block.now.column1 c.args.row tile c.loop-column-test.false
      c.loop-column.invariant.1)
      c.loop-column.invariant.0;
}
