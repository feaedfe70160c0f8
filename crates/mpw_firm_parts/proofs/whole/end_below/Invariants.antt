-- The invariants of the loops of `end_below` in `src/whole.rt`.
use Rattle.std.proofs.Common.{take, pos, ◌^◌, ◌<ℤ◌}
use Rattle.std.specs.Prelude.{All}
use Rattle.mpw_columns_keys.specs.declared.column.Column.{Column}
use Rattle.mpw_firm_parts.proofs.whole.end_below.Given as goal

abbrev pub invariant-loop-column : goal.invariant-loop-column
invariant-loop-column l = All (λ (column : Column). column.to <ℤ pos (2 ^ 63))
    (take l.column-index l.fn.columns)
