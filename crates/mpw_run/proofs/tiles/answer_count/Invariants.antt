-- The invariants of the loops of `answer_count` in `src/tiles.rt`.
use Rattle.std.proofs.Common.{◌≡◌, take}
use Rattle.mpw_run.specs.Run.{answered}
use Rattle.mpw_run.proofs.tiles.answer_count.Given as goal

abbrev pub invariant-loop-i : goal.invariant-loop-i
invariant-loop-i l = l.count ≡ answered (take l.i l.tiles)
