-- The invariants of the loops of `Earlier::add_each` in `src/earlier.rt`.
use Rattle.std.proofs.Common.{◌+◌, length}
use Rattle.mpw_columns.specs.Internal.Like.{IsTold}
use Rattle.mpw_columns.proofs.earlier.Earlier.add_each.Given as goal

abbrev pub invariant-loop : goal.invariant-loop
invariant-loop l =
    IsTold l.fn.all.layout.now l.fn.all.list.now (length l.fn.self.likes.items + l.counter) l.self
