-- The invariants of the loops of `next_number` in `src/masked.rt`.
use Rattle.std.proofs.Common.{◌≡◌, ◌-◌, length, drop}
use Rattle.mpw_replies.specs.Ranks.{numbered_lines}
use Rattle.mpw_replies.proofs.masked.next_number.Given as goal

abbrev pub invariant-loop-at : goal.invariant-loop-at
invariant-loop-at l =
    numbered_lines l.fn.numbers l.initial.at (drop l.initial.at l.fn.rules)
    ≡ numbered_lines l.fn.numbers l.at (drop l.at l.fn.rules)

abbrev pub decreases-loop-at : goal.decreases-loop-at
decreases-loop-at l = length l.rules - l.at
