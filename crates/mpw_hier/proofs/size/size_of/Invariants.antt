-- The invariants of the loops of `size_of` in `src/size.rt`.
use Rattle.mpw_hier.proofs.Sizing.{IsSizedTo}
use Rattle.mpw_hier.proofs.size.size_of.Given as goal

abbrev pub invariant-loop-element : goal.invariant-loop-element
invariant-loop-element l = IsSizedTo l.structure.elements l.below l.element-index l.left l.size
