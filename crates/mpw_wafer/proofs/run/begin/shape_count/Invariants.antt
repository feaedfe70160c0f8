-- The invariants of the loops of `shape_count` in `src/run/begin.rt`.
use Rattle.std.proofs.Common.{◌≡◌, ◌≤◌, ◌*◌, ◌^◌, take}
use Rattle.mpw_walk.specs.Roots.{roots_count}
use Rattle.mpw_wafer.proofs.run.begin.shape_count.Given as goal

abbrev pub invariant-loop-root : goal.invariant-loop-root
invariant-loop-root l = record {
  so_far : l.count ≡ roots_count l.snapshot.shelf (take l.root-index l.snapshot.roots);
  small : l.count ≤ l.root-index * 2 ^ 40;
}
