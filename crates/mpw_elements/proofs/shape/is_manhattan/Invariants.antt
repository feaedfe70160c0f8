-- The invariants of the loops of `is_manhattan` in `src/shape.rt`.
use Rattle.std.proofs.Common.{◌≡◌, ◌-◌, drop}
use Rattle.mpw_structures.specs.Element.{is_manhattan_step, each_step}
use Rattle.mpw_elements.proofs.shape.is_manhattan.Given as goal

-- the steps that are left decide
abbrev pub invariant-loop-index : goal.invariant-loop-index
invariant-loop-index l =
    each_step is_manhattan_step (drop (l.index - 1) l.points) ≡ each_step is_manhattan_step l.points
