-- Answers to the goals of `is_ascending` in `src/markers/asked.rt`.
use Rattle.std.proofs.Common.{arith}
use Rattle.std.proofs.lemmas.List.Kept.{AllPairs-from_increasing}
use Rattle.gate_checks.proofs.markers.asked.is_ascending.Goals as goal

pub returns : goal.returns
returns c =
    λ _. AllPairs-from_increasing c.args.numbers.now (λ k l. c.loop-i.invariant k (omega arith))
