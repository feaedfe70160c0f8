-- The invariants of the loops of `lists_of` in `src/check.rt`.
use Rattle.std.proofs.Common.{◌≡◌, map, take}
use Rattle.mpw_check.specs.Internal.Tiled.{markers_in}
use Rattle.mpw_check.proofs.check.lists_of.Given as goal

abbrev pub invariant-loop-answer : goal.invariant-loop-answer
invariant-loop-answer l = l.lists.items ≡ map markers_in (take l.answer-index l.fn.answers)
