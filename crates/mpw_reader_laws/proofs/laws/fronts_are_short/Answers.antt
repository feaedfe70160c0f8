-- Answers to the goals of `fronts_are_short` in `src/laws.rt`.
use Rattle.mpw_reader_laws.proofs.Changed as laws
use Rattle.mpw_reader_laws.proofs.laws.fronts_are_short.Goals as goal

pub returns : goal.returns
returns c = laws.fronts_are_short
