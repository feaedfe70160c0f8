-- The invariants of the loops of `placed_columns` in `src/first.rt`.
use Rattle.std.proofs.Common.{◌≡◌, ◌≤◌, take, drop}
use Rattle.std.specs.List.{AllZip}
use Rattle.mpw_columns.specs.Internal.Firsts.{IsPlacedAt}
use Rattle.mpw_columns.specs.Internal.Like.{own_columns}
use Rattle.mpw_columns.proofs.first.placed_columns.Given as goal

abbrev pub invariant-loop-place : goal.invariant-loop-place
invariant-loop-place l = record {
  done : AllZip (IsPlacedAt l.fn.layout.snapshot.now (own_columns l.fn.columns l.fn.likes)) (take l.place l.fn.columns) l.placed.items;
  left : drop l.own (own_columns l.fn.columns l.fn.likes) ≡ own_columns (drop l.place l.fn.columns) (drop l.place l.fn.likes);
  few : l.own ≤ l.place;
}
