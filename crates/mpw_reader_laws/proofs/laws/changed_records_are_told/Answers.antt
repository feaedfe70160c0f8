-- Answers to the goals of `changed_records_are_told` in `src/laws.rt`.
use Rattle.mpw_reader_laws.proofs.Changed as laws
use Rattle.mpw_reader_laws.proofs.laws.changed_records_are_told.Goals as goal

pub returns : goal.returns
returns c = laws.changed_records_are_told
