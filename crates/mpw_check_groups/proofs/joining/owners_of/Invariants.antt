-- The invariants of the loops of `owners_of` in `src/joining.rt`.
use Rattle.std.proofs.Common.{◌≤◌}
use Rattle.mpw_check_groups.specs.Joined.{AreOwners}
use Rattle.mpw_check_groups.proofs.joining.owners_of.Given as goal

abbrev pub invariant-loop-rule : goal.invariant-loop-rule
invariant-loop-rule l = (l.rule ≤ l.rules) × AreOwners l.groups l.rule l.owners.items
