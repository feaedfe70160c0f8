-- The invariants of the loops of `are_same_roots` in `src/snapshot.rt`.
use Rattle.std.proofs.Common.{◌≡◌, take}
use Rattle.mpw_tiles.proofs.snapshot.are_same_roots.Given as goal

abbrev pub invariant-loop-i : goal.invariant-loop-i
invariant-loop-i l = take l.i l.first ≡ take l.i l.second
