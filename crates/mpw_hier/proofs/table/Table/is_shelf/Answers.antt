-- Answers to the goals of `Table::is_shelf` in `src/table.rt`.
use Rattle.std.proofs.Common.{subst}
use Rattle.mpw_hier.specs.Limits.{IsShelf}
use Rattle.mpw_hier.proofs.table.Table.is_shelf.Goals as goal

pub returns : goal.returns
returns c = subst IsShelf c.self.view_is c.self.invariant.submitted
