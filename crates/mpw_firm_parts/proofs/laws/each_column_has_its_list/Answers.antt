-- Answers to the goals of `each_column_has_its_list` in `src/laws.rt`.
use Rattle.mpw_firm_parts.proofs.Following.{each_column_has_its_list}
use Rattle.mpw_firm_parts.proofs.laws.each_column_has_its_list.Goals as goal

pub returns : goal.returns
returns c = each_column_has_its_list
