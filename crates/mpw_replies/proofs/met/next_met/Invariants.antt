-- The invariants of the loops of `next_met` in `src/met.rt`.
use Rattle.std.proofs.Common.{◌≡◌, ◌-◌, length}
use Rattle.mpw_replies.specs.Ranks.{IsMarked, met_left}
use Rattle.mpw_replies.proofs.met.next_met.Given as goal

abbrev pub invariant-loop-turn : goal.invariant-loop-turn
invariant-loop-turn l =
    IsMarked l.fn.ranks l.fn.met l.turn
    × (met_left l.fn.cells l.fn.ranks l.fn.met l.initial.turn ≡ met_left l.fn.cells l.fn.ranks
    l.fn.met l.turn)

abbrev pub decreases-loop-turn : goal.decreases-loop-turn
decreases-loop-turn l = length l.cells - l.turn.at
