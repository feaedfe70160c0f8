-- Answers to the goals of `every_state_keeps_its_placings` in `src/laws.rt`.
use Rattle.mpw_core.proofs.PlacingLemmas.{placed-history}
use Rattle.mpw_core.proofs.laws.every_state_keeps_its_placings.Goals as goal

pub returns : goal.returns
returns c = placed-history c.each_change_keeps.ensures.none c.later_submissions_keep.ensures.sound
    c.changes_of_the_wafer_keep_its_placings.ensures
