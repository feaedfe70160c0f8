-- The invariants of the loops of `books_of` in `src/groups.rt`.
use Rattle.std.proofs.Common.{take}
use Rattle.std.specs.List.{AllZip}
use Rattle.mpw_check_groups.specs.Joined.{AreGroupMarkers}
use Rattle.mpw_check.proofs.groups.books_of.Given as goal

abbrev pub invariant-loop-group : goal.invariant-loop-group
invariant-loop-group g l =
    AllZip (AreGroupMarkers l.fn.snapshot) (take l.group-index l.fn.groups) l.books.items
