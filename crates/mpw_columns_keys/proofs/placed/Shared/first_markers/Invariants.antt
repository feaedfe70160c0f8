-- The invariants of the loops of `Shared::first_markers` in `src/placed.rt`.
use Rattle.std.proofs.Common.{◌≡◌, ◌≤◌, map}
use Rattle.mpw_columns_keys.specs.Keys.{of_first}
use Rattle.mpw_columns_keys.specs.Firsts.{first_placed}
use Rattle.mpw_columns_keys.proofs.placed.Shared.first_markers.Given as goal

abbrev pub invariant-loop-rule : goal.invariant-loop-rule
invariant-loop-rule l = (l.rule ≤ l.fn.rules)
    × (l.together.markers.items
    ≡ map of_first (first_placed l.fn.most l.fn.self.firsts.now l.fn.self.upright.now
    l.fn.self.across.now l.rule))
