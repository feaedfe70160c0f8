-- The invariants of the loops of `add_outside` in `src/outside.rt`.
use Rattle.std.proofs.Common.{◌≡◌, ◌++◌, drop}
use Rattle.mpw_hier.specs.Structures.{referenced_names}
use Rattle.mpw_hier.specs.Outside.{names_outside}
use Rattle.mpw_hier.proofs.outside.add_outside.Given as goal

-- the names so far, and those to come
abbrev pub invariant-loop-element : goal.invariant-loop-element
invariant-loop-element l =
    l.names ++ names_outside l.library (referenced_names (drop l.element-index l.elements))
    ≡ l.initial.names ++ names_outside l.library (referenced_names l.elements)
