-- Answers to the goals of `met_origins` in `src/fill.rt`.
use Rattle.mpw_markers.proofs.fill.met_origins.Goals as goal
use Rattle.std.proofs.Common.{length}
use Rattle.mpw_markers.proofs.Filled.{all_answers, items_can}

pub returns : goal.returns
returns c = all_answers c.args.rectangles.now c.args.boxes.now c.in_ok-items.items.items
    c.in_ok-mets.mets.items c.fill.new.mets.items c.requires.areas c.in_ok-items.ensures
    c.in_ok-mets.ensures.count c.in_ok-fill.ensures

pub fill-requires : goal.fill-requires
fill-requires c = items_can c.args.boxes.now c.in_ok-items.items.items
    (length c.in_ok-mets.mets.items) c.in_ok-mets.ensures.count c.requires.ordered
    c.in_ok-items.ensures
