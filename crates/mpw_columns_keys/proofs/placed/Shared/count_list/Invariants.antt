-- The invariants of the loops of `Shared::count_list` in `src/placed.rt`.
use Rattle.std.proofs.Common.{◌≡◌, take, sum_by}
use Rattle.mpw_columns_keys.specs.Firsts.{capped, placed_count}
use Rattle.mpw_columns_keys.proofs.placed.Shared.count_list.Given as goal

abbrev pub invariant-loop-column : goal.invariant-loop-column
invariant-loop-column l =
    l.count ≡ capped (sum_by (placed_count l.fn.self.firsts.now l.fn.number)
    (take l.column-index l.columns))
