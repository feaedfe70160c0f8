-- The invariants of the loops of `sweep_up` in `src/cut.rt`.
use Rattle.std.proofs.Common.{pos}
use Rattle.std.specs.Int.{int_gap}
use Rattle.std.specs.List.Sorted.{IsPermutation}
use Rattle.mpw_region.specs.Internal.Swept.{SweepsUp}
use Rattle.mpw_region.proofs.cut.sweep_up.Given as goal

abbrev pub invariant-loop-next : goal.invariant-loop-next
invariant-loop-next l = record {
  sweeps : SweepsUp l.sweep l.out.items;
  moved : IsPermutation l.fn.boxes.items l.sweep.boxes.items;
}

abbrev pub decreases-loop-next : goal.decreases-loop-next
decreases-loop-next l = int_gap l.sweep.row (pos 9223372036854775807)
