-- Answers to the goals of `strips_of` in `src/cells.rt`.
use Rattle.mpw_checks.proofs.cells.strips_of.Goals as goal

pub returns : goal.returns
returns c = rw c.of.ensures (record
    { rows = c.in_ok-rows.ensures.steps; columns = c.in_ok-columns.ensures.steps })
