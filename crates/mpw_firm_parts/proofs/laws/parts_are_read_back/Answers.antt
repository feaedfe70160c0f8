-- Answers to the goals of `parts_are_read_back` in `src/laws.rt`.
use Rattle.mpw_firm_parts.proofs.PartLemmas.{parts_are_read_back}
use Rattle.mpw_firm_parts.proofs.laws.parts_are_read_back.Goals as goal

pub returns : goal.returns
returns c = parts_are_read_back
