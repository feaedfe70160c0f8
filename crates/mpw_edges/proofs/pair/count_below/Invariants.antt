-- The invariants of the loops of `count_below` in `src/pair.rt`.
use Rattle.std.proofs.Common.{◌≤ℤ◌, take}
use Rattle.std.specs.Prelude.{All}
use Rattle.mpw_edges.proofs.pair.count_below.Given as goal

abbrev pub invariant-loop-n : goal.invariant-loop-n
invariant-loop-n l = All (λ e. e.y1 ≤ℤ l.other.y0) (take l.n l.edges)
