-- The invariants of the loops of `upright_count` in `src/whole.rt`.
use Rattle.std.proofs.Common.{◌≡◌, ◌+◌, ◌-◌, ◌≤◌, length, drop}
use Rattle.mpw_firm_parts.specs.Internal.Stitching.{upright_count}
use Rattle.mpw_firm_parts.proofs.whole.upright_count.Given as goal

abbrev pub invariant-loop-count : goal.invariant-loop-count
invariant-loop-count l = (l.count ≤ length l.fn.columns)
    × (l.count + upright_count (drop l.count l.fn.columns) ≡ upright_count l.fn.columns)

abbrev pub decreases-loop-count : goal.decreases-loop-count
decreases-loop-count l = length l.fn.columns - l.count
