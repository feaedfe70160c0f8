-- The invariants of the loops of `band_length` in `src/pair.rt`.
use Rattle.std.proofs.Common.{◌≤ℤ◌, get_or, take}
use Rattle.std.specs.Prelude.{All}
use Rattle.mpw_edges.proofs.Region.{no_edge}
use Rattle.mpw_edges.proofs.pair.band_length.Given as goal

abbrev pub invariant-loop-n : goal.invariant-loop-n
invariant-loop-n l = All (λ e. e.y0 ≤ℤ (get_or l.edges 0 no_edge).y0) (take l.n l.edges)
