-- Answers to the goals of `first_fault_is_refused` in `src/laws.rt`.
use Rattle.mpw_reader_laws.proofs.FirstRefused as laws
use Rattle.mpw_reader_laws.proofs.laws.first_fault_is_refused.Goals as goal

pub returns : goal.returns
returns c = laws.first_fault_is_refused
