-- The invariants of the loops of `table_of` in `src/hierarchy.rt`.
use Rattle.std.proofs.Common.{take}
use Rattle.mpw_hier.specs.Internal.Building.{ShowsBindings}
use Rattle.mpw_hier.proofs.hierarchy.table_of.Given as goal

-- the bindings so far
abbrev pub invariant-loop-binding : goal.invariant-loop-binding
invariant-loop-binding l = ShowsBindings l.table (take l.binding-index l.bindings)
