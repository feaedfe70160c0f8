-- The invariants of the loops of `cell_lines` in `src/rows.rt`.
use Rattle.std.proofs.Common.{◌≡◌, take}
use Rattle.std.specs.List.{flat_map}
use Rattle.mpw_layouts.specs.Layouts.{readable_line}
use Rattle.mpw_layouts.proofs.rows.cell_lines.Given as goal

abbrev pub invariant-loop-cell : goal.invariant-loop-cell
invariant-loop-cell l =
    l.lines.items ≡ flat_map (readable_line l.fn.policy l.fn.shelf l.fn.connection)
    (take l.cell-index l.fn.cells)
