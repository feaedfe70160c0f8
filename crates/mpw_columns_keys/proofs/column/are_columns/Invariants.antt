-- The invariants of the loops of `are_columns` in `src/column.rt`.
use Rattle.std.proofs.Common.{drop}
use Rattle.std.specs.Prelude.{◌↔◌}
use Rattle.mpw_columns_keys.specs.Columns.{AreColumns}
use Rattle.mpw_columns_keys.proofs.column.are_columns.Given as goal

abbrev pub invariant-loop-column : goal.invariant-loop-column
invariant-loop-column l =
    AreColumns l.axis l.reached l.high (drop l.column-index l.columns)
    ↔ AreColumns l.axis l.low l.high l.columns
