-- The invariants of the loops of `joined_firsts` in `src/group_firsts.rt`.
use Rattle.mpw_check.proofs.GroupFirsts.{JoinedUpto}
use Rattle.mpw_check.proofs.group_firsts.joined_firsts.Given as goal

abbrev pub invariant-loop-rule : goal.invariant-loop-rule
invariant-loop-rule l = JoinedUpto l.firsts l.owners l.rule l.joined
