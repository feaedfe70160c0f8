-- The invariants of the loops of `greatest_distance` in `src/plan.rt`.
use Rattle.std.proofs.Common.{◌≡◌, take}
use Rattle.mpw_tiles.specs.Plan.{greatest_distance}
use Rattle.mpw_tiles.proofs.plan.greatest_distance.Given as goal

abbrev pub invariant-loop-rule : goal.invariant-loop-rule
invariant-loop-rule l = l.greatest ≡ greatest_distance (take l.rule-index l.rules)
