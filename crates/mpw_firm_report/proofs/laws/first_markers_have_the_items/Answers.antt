-- Answers to the goals of `first_markers_have_the_items` in `src/laws.rt`.
use Rattle.mpw_firm_report.proofs.First.{first_have_items}
use Rattle.mpw_firm_report.proofs.laws.first_markers_have_the_items.Goals as goal

pub returns : goal.returns
returns c = first_have_items
