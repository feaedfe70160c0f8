-- The invariants of the loops of `turn` in `src/turn.rt`.
use Rattle.std.proofs.Common.{◌+◌, ◌-◌, ◌*◌}
use Rattle.mpw_shapes.proofs.turn.+turn.Given as goal

abbrev pub decreases-turn : goal.decreases-turn
decreases-turn l = 2 * (l.to - l.from) + 1

abbrev pub decreases-turn_halves : goal.decreases-turn_halves
decreases-turn_halves l = 2 * (l.to - l.from)
