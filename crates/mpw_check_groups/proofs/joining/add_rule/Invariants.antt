-- The invariants of the loops of `add_rule` in `src/joining.rt`.
use Rattle.std.proofs.Common.{◌≡◌, ◌++◌, take}
use Rattle.mpw_check_groups.specs.Joined.{taken}
use Rattle.mpw_check_groups.proofs.joining.add_rule.Given as goal

abbrev pub invariant-loop-marker : goal.invariant-loop-marker
invariant-loop-marker l =
    l.markers.items ≡ l.initial.markers.items ++ taken l.place l.rule (take l.marker-index l.found)
