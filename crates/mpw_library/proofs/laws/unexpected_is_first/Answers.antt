-- Answers to the goals of `unexpected_is_first` in `src/laws.rt`.
use Rattle.mpw_library.proofs.FrontLibrary as fronts
use Rattle.mpw_library.proofs.laws.unexpected_is_first.Goals as goal

pub returns : goal.returns
returns c = fronts.unexpected_is_first
