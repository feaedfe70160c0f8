-- Answers to the goals of `work_goes_on` in `src/work.rt`.
use Rattle.mpw_laws.proofs.WorkLemmas.{behind_on}
use Rattle.mpw_laws.proofs.work.work_goes_on.Goals as goal

pub returns : goal.returns
returns c =
    let law = c.keepers_have_the_changes_in_order.ensures in
    behind_on law.handled law.stays law.on
