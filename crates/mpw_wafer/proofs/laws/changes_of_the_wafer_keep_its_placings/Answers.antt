-- Answers to the goals of `changes_of_the_wafer_keep_its_placings` in `src/laws.rt`.
use Rattle.mpw_wafer.proofs.Leaving.{changes_keep}
use Rattle.mpw_wafer.proofs.laws.changes_of_the_wafer_keep_its_placings.Goals as goal

pub returns : goal.returns
returns c = changes_keep c.each_change_keeps.ensures.place c.each_change_keeps.ensures.unplace
