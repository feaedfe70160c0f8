-- The invariants of the loops of `add_pairs_from` in `src/pair.rt`.
use Rattle.std.proofs.Common.{take}
use Rattle.mpw_region.specs.Internal.Runs.{Adds}
use Rattle.mpw_edges.specs.Internal.Pairs.{IsPairFrom}
use Rattle.mpw_edges.proofs.pair.add_pairs_from.Given as goal

abbrev pub invariant-loop-k : goal.invariant-loop-k
invariant-loop-k l =
    Adds l.initial.runs.items l.runs.items (IsPairFrom l.side l.limits (take l.k l.tos) l.from)
