-- The invariants of the loops of `joined` in `src/joining.rt`.
use Rattle.std.proofs.Common.{◌≡◌, ◌++◌, drop}
use Rattle.mpw_check_groups.specs.Joined.{joined_from}
use Rattle.mpw_check_groups.proofs.joining.joined.Given as goal

abbrev pub invariant-loop-rule : goal.invariant-loop-rule
invariant-loop-rule l =
    l.markers.items ++ joined_from l.books l.rule (drop l.rule l.owners)
    ≡ joined_from l.books 0 l.owners
