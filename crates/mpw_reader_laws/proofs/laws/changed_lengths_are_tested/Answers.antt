-- Answers to the goals of `changed_lengths_are_tested` in `src/laws.rt`.
use Rattle.mpw_reader_laws.proofs.Changed as laws
use Rattle.mpw_reader_laws.proofs.laws.changed_lengths_are_tested.Goals as goal

pub returns : goal.returns
returns c = laws.lengths_are_tested
