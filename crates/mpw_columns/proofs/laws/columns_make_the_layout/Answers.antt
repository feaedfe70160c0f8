-- Answers to the goals of `columns_make_the_layout` in `src/laws.rt`.
use Rattle.mpw_columns.proofs.BookMade.{make_the_layout}
use Rattle.mpw_columns.proofs.laws.columns_make_the_layout.Goals as goal

pub returns : goal.returns
returns c = make_the_layout (record {
  decides = c.test_decides_pair_steps.ensures;
  lie = c.squares_lie_in_boxes.ensures.layers;
})
