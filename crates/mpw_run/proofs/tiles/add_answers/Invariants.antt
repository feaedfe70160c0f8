-- The invariants of the loops of `add_answers` in `src/tiles.rt`.
use Rattle.std.proofs.Common.{◌≡◌, ◌++◌, take}
use Rattle.mpw_run.specs.Run.{answers_of}
use Rattle.mpw_run.proofs.tiles.add_answers.Given as goal

abbrev pub invariant-loop-i : goal.invariant-loop-i
invariant-loop-i l = l.lists.items ≡ l.initial.lists.items ++ answers_of (take l.i l.tiles)
