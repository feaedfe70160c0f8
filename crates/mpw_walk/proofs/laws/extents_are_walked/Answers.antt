-- Answers to the goals of `extents_are_walked` in `src/laws.rt`.
use Rattle.mpw_walk.proofs.laws.extents_are_walked.Goals as goal

pub returns : goal.returns
returns c =
    let least = c.extents_are_least_boxes.ensures in
    let boxes = c.boxes_are_placed.ensures in record {
      ordered = least.ordered;
      holds = least.holds;
      least = least.least;
      placed = least.placed;
      again = boxes.again;
      unmoved = boxes.unmoved;
    }
