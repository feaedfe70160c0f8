-- Answers to the goals of `first_fault_is_told` in `src/laws.rt`.
use Rattle.mpw_reader_laws.proofs.FirstFault as laws
use Rattle.mpw_reader_laws.proofs.laws.first_fault_is_told.Goals as goal

pub returns : goal.returns
returns c = laws.first_fault_is_told
