-- The invariants of the loops of `Earlier::add_like` in `src/earlier.rt`.
use Rattle.std.proofs.Common.{◌≡◌, ◌++◌}
use Rattle.mpw_columns.specs.Internal.Like.{places_from}
use Rattle.mpw_columns.proofs.earlier.Earlier.add_like.Given as goal

abbrev pub invariant-loop-k : goal.invariant-loop-k
invariant-loop-k l = record {
  likes : l.self.likes.items ≡ l.fn.self.likes.items ++ places_from l.fn.earlier l.k;
  kept : l.self.kept.items ≡ l.fn.self.kept.items;
}
