-- Answers to the goals of `only_parts_are_read` in `src/laws.rt`.
use Rattle.mpw_firm_parts.proofs.PartLemmas.{only_parts_are_read}
use Rattle.mpw_firm_parts.proofs.laws.only_parts_are_read.Goals as goal

pub returns : goal.returns
returns c = only_parts_are_read
