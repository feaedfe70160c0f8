-- The invariants of the loops of `add_band_pairs` in `src/pair.rt`.
use Rattle.std.proofs.Common.{ℕ, ◌<◌, ◌≤◌, ◌<ℤ◌, length, get_or, take}
use Rattle.std.specs.Prelude.{All}
use Rattle.mpw_region.specs.Internal.Runs.{Adds}
use Rattle.mpw_edges.specs.declared.pair.Edge.{Edge}
use Rattle.mpw_edges.specs.Internal.Pairs.{IsPairOf}
use Rattle.mpw_edges.proofs.pair.add_band_pairs.Given as goal

abbrev pub invariant-loop-from : goal.invariant-loop-from
invariant-loop-from l = record {
  adds : Adds l.initial.runs.items l.runs.items
      (IsPairOf l.side l.limits (take l.from-index l.froms) l.tos);
  within : l.start ≤ length l.tos;
  left : (k : ℕ) (d : Edge) → l.from-index ≤ k → k < length l.froms
      → All (λ to. to.x <ℤ (get_or l.froms k d).x) (take l.start l.tos);
}
