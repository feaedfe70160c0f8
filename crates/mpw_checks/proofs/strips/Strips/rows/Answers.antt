-- Answers to the goals of `Strips::rows` in `src/strips.rt`.
use Rattle.mpw_checks.proofs.strips.Strips.rows.Goals as goal

pub returns-clause-banded : goal.returns-clause-banded
returns-clause-banded c = rw (← c.self.view_is) c.self.invariant.0
