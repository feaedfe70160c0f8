-- The invariants of the loops of `lists_with` in `src/like.rt`.
use Rattle.std.proofs.Common.{take, drop}
use Rattle.std.specs.List.{AllZip}
use Rattle.std.specs.Vec.Iter.{into_iter_items}
use Rattle.mpw_columns.specs.Lists.{IsColumnList}
use Rattle.mpw_columns.specs.Internal.Like.{own_columns}
use Rattle.mpw_columns.proofs.like.lists_with.Given as goal

abbrev pub invariant-loop-place : goal.invariant-loop-place
invariant-loop-place l = record {
  done : AllZip (IsColumnList l.fn.layout.snapshot.now) (take l.place l.fn.columns) l.lists.items;
  left : AllZip (IsColumnList l.fn.layout.snapshot.now)
      (own_columns (drop l.place l.fn.columns) (drop l.place l.fn.likes)) (into_iter_items l.own);
}
