-- Answers to the goals of `columns_have_whole_runs` in `src/laws.rt`.
use Rattle.mpw_columns.proofs.Making.{whole_runs}
use Rattle.mpw_columns.proofs.laws.columns_have_whole_runs.Goals as goal

pub returns : goal.returns
returns c = whole_runs (record {
  decides = c.test_decides_pair_steps.ensures;
  lie = c.squares_lie_in_boxes.ensures.layers;
})
