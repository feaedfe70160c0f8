-- The invariants of the loops of `are_same` in `src/same.rt`.
use Rattle.std.proofs.Common.{◌≡◌, take}
use Rattle.mpw_lists.proofs.same.are_same.Given as goal

abbrev pub invariant-loop-i : goal.invariant-loop-i
invariant-loop-i g l = take l.i l.first ≡ take l.i l.second
