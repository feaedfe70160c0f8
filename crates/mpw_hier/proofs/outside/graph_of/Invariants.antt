-- The invariants of the loops of `graph_of` in `src/outside.rt`.
use Rattle.std.proofs.Common.{◌≡◌, map, take}
use Rattle.mpw_hier.specs.Outside.{places_from}
use Rattle.mpw_hier.proofs.outside.graph_of.Given as goal

-- the structures so far
abbrev pub invariant-loop-structure : goal.invariant-loop-structure
invariant-loop-structure l =
    l.graph ≡ map (places_from l.library) (take l.structure-index l.structure-items)
