-- Answers to the goals of `boxes_are_placed` in `src/laws.rt`.
use Rattle.mpw_hier.proofs.Extents.{own_box}
use Rattle.mpw_hier.proofs.Placings.{again_box}
use Rattle.mpw_hier.proofs.laws.boxes_are_placed.Goals as goal

pub returns : goal.returns
returns c = record { again = again_box; unmoved = own_box }
