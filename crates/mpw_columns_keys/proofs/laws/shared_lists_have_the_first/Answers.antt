-- Answers to the goals of `shared_lists_have_the_first` in `src/laws.rt`.
use Rattle.mpw_columns_keys.proofs.FirstOf.{first_of_each}
use Rattle.mpw_columns_keys.proofs.laws.shared_lists_have_the_first.Goals as goal

pub returns : goal.returns
returns c = first_of_each
