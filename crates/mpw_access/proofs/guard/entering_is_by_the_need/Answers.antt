-- Answers to the goals of `entering_is_by_the_need` in `src/guard.rt`.
use Rattle.mpw_access.proofs.GuardLemmas.{denied_is_lacked, entered_has, holders_enter}
use Rattle.mpw_access.proofs.guard.entering_is_by_the_need.Goals as goal

pub returns-clause-has : goal.returns-clause-has
returns-clause-has c = entered_has

pub returns-clause-enters : goal.returns-clause-enters
returns-clause-enters c = holders_enter

pub returns-clause-lacks : goal.returns-clause-lacks
returns-clause-lacks c = denied_is_lacked
