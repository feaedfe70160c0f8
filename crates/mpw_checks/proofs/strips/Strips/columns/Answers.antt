-- Answers to the goals of `Strips::columns` in `src/strips.rt`.
use Rattle.mpw_checks.proofs.strips.Strips.columns.Goals as goal

pub returns-clause-banded : goal.returns-clause-banded
returns-clause-banded c = rw (← c.self.view_is) c.self.invariant.1
