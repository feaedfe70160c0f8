-- Answers to the goals of `moved_items_show_displaced` in `src/laws.rt`.
use Rattle.mpw_columns.proofs.Moved.{moved_show}
use Rattle.mpw_columns.proofs.laws.moved_items_show_displaced.Goals as goal

pub returns : goal.returns
returns c = moved_show c.squares_lie_in_boxes.ensures.boxes
