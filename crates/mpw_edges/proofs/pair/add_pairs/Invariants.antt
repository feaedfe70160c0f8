-- The invariants of the loops of `add_pairs` in `src/pair.rt`.
use Rattle.std.proofs.Common.{◌+◌, ◌-◌, ◌≤◌, length, drop}
use Rattle.mpw_edges.specs.Internal.Pairs.{IsPairOf, Moves}
use Rattle.mpw_edges.proofs.pair.add_pairs.Given as goal

abbrev pub invariant-loop-i : goal.invariant-loop-i
invariant-loop-i l = record {
  moves : Moves l.initial.runs.items (IsPairOf l.side l.limits l.froms l.tos) l.runs.items
      (IsPairOf l.side l.limits (drop l.i l.froms) (drop l.j l.tos));
  from : l.i ≤ length l.froms;
  to : l.j ≤ length l.tos;
}

abbrev pub decreases-loop-i : goal.decreases-loop-i
decreases-loop-i l = (length l.froms - l.i) + (length l.tos - l.j)
