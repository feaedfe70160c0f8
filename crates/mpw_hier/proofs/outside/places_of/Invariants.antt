-- The invariants of the loops of `places_of` in `src/outside.rt`.
use Rattle.std.proofs.Common.{◌≡◌, ◌++◌, drop}
use Rattle.mpw_hier.specs.Structures.{referenced_names}
use Rattle.mpw_hier.specs.Outside.{places_of}
use Rattle.mpw_hier.proofs.outside.places_of.Given as goal

-- the places so far, and those to come
abbrev pub invariant-loop-element : goal.invariant-loop-element
invariant-loop-element l = l.places.items
    ++ places_of l.library (referenced_names (drop l.element-index l.elements))
    ≡ places_of l.library (referenced_names l.elements)
