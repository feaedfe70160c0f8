-- The invariants of the loops of `add_firsts` in `src/first.rt`.
use Rattle.std.proofs.Common.{take}
use Rattle.mpw_columns.specs.Internal.Firsts.{AddsFirsts}
use Rattle.mpw_columns.proofs.first.add_firsts.Given as goal

abbrev pub invariant-loop-list : goal.invariant-loop-list
invariant-loop-list l =
    AddsFirsts l.fn.most l.fn.count (take l.list-index l.lists) l.fn.firsts.items l.firsts.items
