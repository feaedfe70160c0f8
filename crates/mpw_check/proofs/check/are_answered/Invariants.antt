-- The invariants of the loops of `are_answered` in `src/check.rt`.
use Rattle.std.proofs.Common.{take}
use Rattle.std.specs.Prelude.{All}
use Rattle.mpw_check.specs.Internal.Tiled.{IsAnswered}
use Rattle.mpw_check.proofs.check.are_answered.Given as goal

abbrev pub invariant-loop-answer : goal.invariant-loop-answer
invariant-loop-answer l = All IsAnswered (take l.answer-index l.fn.answers)
