-- The invariants of the loops of `Below::names` in `src/below.rt`.
use Rattle.std.proofs.Common.{◌≡◌, ◌++◌, drop, length}
use Rattle.mpw_roles.specs.Marks.{marked_names}
use Rattle.mpw_roles.specs.Places.{marks_from}
use Rattle.mpw_roles.proofs.below.Below.names.Given as goal

-- the names so far and those that are left are all
abbrev pub invariant-loop-index : goal.invariant-loop-index
invariant-loop-index l = l.names ++ marked_names (drop l.index l.self-inside.table.now)
    (drop l.index (marks_from 0 (length l.self-inside.table.now) l.self-inside.mask))
    ≡ marked_names l.self-inside.table.now
    (marks_from 0 (length l.self-inside.table.now) l.self-inside.mask)
