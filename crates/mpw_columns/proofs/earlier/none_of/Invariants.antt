-- The invariants of the loops of `none_of` in `src/earlier.rt`.
use Rattle.std.proofs.Common.{◌≡◌, None, replicate}
use Rattle.mpw_columns.proofs.earlier.none_of.Given as goal

abbrev pub invariant-loop : goal.invariant-loop
invariant-loop l = l.likes.items ≡ replicate l.index None
