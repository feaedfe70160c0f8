-- Answers to the goals of `Places::at` in `src/places.rt`.
use Rattle.std.proofs.Common.{◌<◌, arith}
use Rattle.mpw_hier.proofs.Runs.{run_length, run_within, run_place}
use Rattle.mpw_hier.proofs.places.Places.at.Goals as goal

less : (c : goal.In-Run) → c.args.index < c.in-Run.run'.count
less c = omega (
  arith,
  c.requires,
  run_length _ _ _ (c.in-Run.is) c.self.view_is,
)

pub overflow_add-result : goal.overflow_add-result
overflow_add-result c = omega (arith, less c, run_within _ _ c.in-Run.is c.self.invariant)

pub returns-in-Run : goal.returns-in-Run
returns-in-Run c = run_place _ _ _ _ c.in-Run.is c.self.view_is c.requires
