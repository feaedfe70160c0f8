-- The invariants of the loops of `Table::copy` in `src/table.rt`.
use Rattle.std.proofs.Common.{◌≡◌, take}
use Rattle.mpw_hier.proofs.table.Table.copy.Given as goal

-- the submissions so far
abbrev pub invariant-loop-number : goal.invariant-loop-number
invariant-loop-number l = l.table ≡ take l.number l.self
