-- The invariants of the loops of `elements_on` in `src/elements.rt`.
use Rattle.std.proofs.Common.{◌≡◌, take}
use Rattle.std.specs.Prelude.{filter}
use Rattle.mpw_check_groups.specs.Layers.{is_among, stays}
use Rattle.mpw_check_groups.proofs.elements.elements_on.Given as goal

abbrev pub invariant-loop-element : goal.invariant-loop-element
invariant-loop-element l =
    l.staying.items ≡ filter (stays (is_among l.layers)) (take l.element-index l.elements)
