-- The invariants of the loops of `structures_on` in `src/elements.rt`.
use Rattle.std.proofs.Common.{◌≡◌, take}
use Rattle.mpw_check_groups.specs.Layers.{is_among, library_on}
use Rattle.mpw_check_groups.proofs.elements.structures_on.Given as goal

abbrev pub invariant-loop-structure : goal.invariant-loop-structure
invariant-loop-structure l =
    l.staying ≡ library_on (is_among l.layers) (take l.structure-index l.structures)
