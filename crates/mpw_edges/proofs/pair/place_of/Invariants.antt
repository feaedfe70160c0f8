-- The invariants of the loops of `place_of` in `src/pair.rt`.
use Rattle.std.proofs.Common.{◌<ℤ◌, take}
use Rattle.std.specs.Prelude.{All}
use Rattle.mpw_edges.proofs.pair.place_of.Given as goal

abbrev pub invariant-loop-k : goal.invariant-loop-k
invariant-loop-k l = All (λ to. to.x <ℤ l.from.x) (take l.k l.tos)
