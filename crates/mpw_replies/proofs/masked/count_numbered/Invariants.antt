-- The invariants of the loops of `count_numbered` in `src/masked.rt`.
use Rattle.std.proofs.Common.{◌≡◌, ◌≤◌, ◌+◌, length, drop}
use Rattle.mpw_replies.specs.Ranks.{numbered_lines}
use Rattle.mpw_replies.proofs.masked.count_numbered.Given as goal

abbrev pub invariant-loop-place : goal.invariant-loop-place
invariant-loop-place l =
    (l.count ≤ l.place) × (l.place ≤ length l.fn.rules)
    × (l.count + length (numbered_lines l.fn.numbers l.place (drop l.place l.fn.rules))
    ≡ length (numbered_lines l.fn.numbers 0 l.fn.rules))
