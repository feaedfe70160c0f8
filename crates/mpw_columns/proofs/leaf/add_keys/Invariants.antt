-- The invariants of the loops of `add_keys` in `src/leaf.rt`.
use Rattle.std.proofs.Common.{◌≡◌, ◌++◌, map, take}
use Rattle.mpw_columns.specs.Internal.Found.{key_of_run}
use Rattle.mpw_columns.proofs.leaf.add_keys.Given as goal

abbrev pub invariant-loop-run : goal.invariant-loop-run
invariant-loop-run l =
    l.keys.items ≡ l.initial.keys.items ++ map (key_of_run l.place l.axis) (take l.run-index l.runs)
