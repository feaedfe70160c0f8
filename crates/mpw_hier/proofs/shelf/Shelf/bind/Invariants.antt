-- The invariants of the loops of `Shelf::bind` in `src/shelf.rt`.
use Rattle.std.proofs.Common.{◌≡◌, drop}
use Rattle.mpw_hier.specs.Shelf.{bound_to}
use Rattle.mpw_hier.proofs.Bound.{bound_behind}
use Rattle.mpw_hier.proofs.shelf.Shelf.bind.Given as goal

-- the bindings so far, and those to come
abbrev pub invariant-loop-name : goal.invariant-loop-name
invariant-loop-name l = bound_behind l.bindings.items (bound_to l.self (drop l.name-index l.names))
    ≡ bound_to l.self l.names
