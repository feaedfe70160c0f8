-- The invariants of the loops of `together` in `src/lists.rt`.
use Rattle.std.proofs.Common.{◌≡◌, ◌≤◌, map}
use Rattle.mpw_columns_keys.specs.Keys.{together, of_first}
use Rattle.mpw_columns_keys.proofs.lists.together.Given as goal

abbrev pub invariant-loop-rule : goal.invariant-loop-rule
invariant-loop-rule l = (l.rule ≤ l.fn.rules)
    × (l.markers.items ≡ map of_first (together l.rule l.fn.upright l.fn.across))
