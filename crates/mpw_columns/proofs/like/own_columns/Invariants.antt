-- The invariants of the loops of `own_columns` in `src/like.rt`.
use Rattle.std.proofs.Common.{◌≡◌, ◌++◌, drop}
use Rattle.mpw_columns.specs.Internal.Like.{own_columns}
use Rattle.mpw_columns.proofs.like.own_columns.Given as goal

abbrev pub invariant-loop-place : goal.invariant-loop-place
invariant-loop-place l =
    l.own.items ++ own_columns (drop l.place l.columns) (drop l.place l.likes) ≡ own_columns l.columns l.likes
