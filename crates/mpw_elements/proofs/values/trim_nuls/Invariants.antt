-- The invariants of the loops of `trim_nuls` in `src/values.rt`.
use Rattle.std.proofs.Common.{◌≡◌, ◌≤◌, length, take}
use Rattle.mpw_elements.specs.Values.{without_nuls}
use Rattle.mpw_elements.proofs.values.trim_nuls.Given as goal

-- only NULs come after the end
abbrev pub invariant-loop-end : goal.invariant-loop-end
invariant-loop-end l = record {
  within : l.end ≤ length l.bytes;
  same : without_nuls (take l.end l.bytes) ≡ without_nuls l.bytes;
}

abbrev pub decreases-loop-end : goal.decreases-loop-end
decreases-loop-end l = l.end
