-- Answers to the goals of `rectangles_in` in `src/cores.rt`.
use Rattle.mpw_tiles.specs.Snapshots.{shown}
use Rattle.mpw_walk.specs.Turns.{given}
use Rattle.mpw_columns.proofs.Looking.{rectangles_agree}
use Rattle.mpw_columns.proofs.cores.rectangles_in.Goals as goal

pub returns : goal.returns
returns c =
    let layout = c.args.layout.now in
    rectangles_agree c.squares_lie_in_boxes.ensures.boxes layout.layers.now c.args.axis
    (shown layout.snapshot.now) (given c.walk_within-walk.result.left) c.args.core.now
    c.window_of.result layout.distance c.in_ok-listed.listed.items c.as_slice.result.now
    c.in_ok-parts.parts.items c.by_layer.result.items c.requires.upright c.requires.layout.short
    c.walk_within-walk.ensures c.in_ok-listed.ensures c.as_slice.ensures.value c.window_of.ensures
    c.in_ok-parts.ensures c.by_layer.ensures
