-- Answers to the goals of `things_in` in `src/things.rt`.
use Rattle.mpw_columns.proofs.ThingsListed.{part_told}
use Rattle.mpw_columns.proofs.things.things_in.Goals as goal

pub returns : goal.returns
returns c = part_told c.squares_lie_in_boxes.ensures.boxes c.args.task.now.layout.now
    c.args.task.now.axis c.args.core.now c.window.result c.args.things.now c.shelf.result.now
    c.within.result c.window.ensures c.shelf.ensures c.requires.things c.within.ensures.boxed c.within.ensures.whole
    c.within.ensures.sound
