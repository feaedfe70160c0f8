-- Answers to the goals of `displaced_columns_have_displaced_lists` in `src/laws.rt`.
use Rattle.mpw_columns.proofs.DisplacedLists.{displaced_lists}
use Rattle.mpw_columns.proofs.laws.displaced_columns_have_displaced_lists.Goals as goal

pub returns : goal.returns
returns c = displaced_lists c.test_decides_pair_steps.ensures c.columns_have_whole_runs.ensures
    c.displaced_columns_find_displaced_runs.ensures
