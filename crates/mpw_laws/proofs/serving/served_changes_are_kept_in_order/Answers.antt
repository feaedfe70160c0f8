-- Answers to the goals of `served_changes_are_kept_in_order` in `src/serving.rt`.
use Rattle.mpw_laws.proofs.ServingLemmas.{served_on}
use Rattle.mpw_laws.proofs.serving.served_changes_are_kept_in_order.Goals as goal

pub returns : goal.returns
returns c =
    let law = c.keepers_have_the_changes_in_order.ensures in
    served_on law.handled law.stays law.on c.work_goes_on.ensures
