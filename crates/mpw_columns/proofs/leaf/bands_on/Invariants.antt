-- The invariants of the loops of `bands_on` in `src/leaf.rt`.
use Rattle.std.proofs.Common.{◌≡◌, drop}
use Rattle.mpw_columns.specs.Internal.Bands.{banded_on}
use Rattle.mpw_columns.proofs.leaf.bands_on.Given as goal

abbrev pub invariant-loop-one : goal.invariant-loop-one
invariant-loop-one l = banded_on (drop l.one-index l.banded) l.layer ≡ banded_on l.banded l.layer
