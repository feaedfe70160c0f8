-- The invariants of the loops of `add_widths` in `src/edges.rt`.
use Rattle.std.proofs.Common.{take}
use Rattle.mpw_region.specs.Internal.Runs.{Adds}
use Rattle.mpw_edges.specs.Internal.Pairs.{IsWidthOf}
use Rattle.mpw_edges.proofs.edges.add_widths.Given as goal

abbrev pub invariant-loop-b : goal.invariant-loop-b
invariant-loop-b l =
    Adds l.initial.runs.items l.runs.items (IsWidthOf l.limits (take l.b-index l.boxes))
