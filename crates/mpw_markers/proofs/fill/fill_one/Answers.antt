-- Answers to the goals of `fill_one` in `src/fill.rt`.
use Rattle.mpw_markers.proofs.fill.fill_one.Goals as goal
use Rattle.std.proofs.Common.{refl}
use Rattle.mpw_markers.proofs.Filled.{Fills-one}

pub returns : goal.returns
returns c = Fills-one c.args.common.now c.args.rectangles.now c.args.item.now c.args.mets.now.items
    _ c.in_ok-met.met c.requires refl c.in_ok-met.ensures
