-- The invariants of the loops of `bands_of` in `src/leaf.rt`.
use Rattle.std.proofs.Common.{take}
use Rattle.mpw_job.specs.Answers.{listed_on}
use Rattle.mpw_columns.specs.Internal.Bands.{AreBandsOf}
use Rattle.mpw_columns.proofs.leaf.bands_of.Given as goal

abbrev pub invariant-loop-layer : goal.invariant-loop-layer
invariant-loop-layer l =
    AreBandsOf (take l.layer-index l.layers) (listed_on l.rectangles) l.banded.items
