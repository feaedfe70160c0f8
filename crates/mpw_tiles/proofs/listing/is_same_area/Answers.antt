-- Answers to the goals of `is_same_area` in `src/listing.rt`.
use Rattle.mpw_geom.proofs.Boxes.{same_area}
use Rattle.mpw_tiles.proofs.listing.is_same_area.Goals as goal

pub returns : goal.returns
returns c = same_area c.args.a.now c.args.b.now c.eq.result c.eq.ensures
