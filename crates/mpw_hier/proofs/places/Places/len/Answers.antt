-- Answers to the goals of `Places::len` in `src/places.rt`.
use Rattle.mpw_hier.proofs.Runs.{run_length}
use Rattle.mpw_hier.proofs.places.Places.len.Goals as goal

pub returns-in-Run : goal.returns-in-Run
returns-in-Run c = run_length _ _ _ c.in-Run.is c.self.view_is
