-- Answers to the goals of `Shared::calls` in `src/shared.rt`.
use Rattle.mpw_desk.proofs.shared.Shared.calls.Goals as goal

pub returns : goal.returns
returns g c = record { before = _; goes = c.calls.ensures.goes; counted = c.calls.ensures.counted }
