-- The invariants of the loops of `usable` in `src/rows.rt`.
use Rattle.std.proofs.Common.{◌≡◌, drop}
use Rattle.mpw_layouts.specs.Layouts.{usable}
use Rattle.mpw_layouts.proofs.rows.usable.Given as goal

abbrev pub invariant-loop-cell : goal.invariant-loop-cell
invariant-loop-cell l =
    usable l.fn.policy l.fn.connection l.fn.cells ≡ usable l.fn.policy l.fn.connection
    (drop l.cell-index l.fn.cells)
