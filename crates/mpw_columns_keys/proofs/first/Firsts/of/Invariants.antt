-- The invariants of the loops of `Firsts::of` in `src/first.rt`.
use Rattle.std.proofs.Common.{◌≡◌, ℕ, ◌<◌, ◌≤◌, get_or, length}
use Rattle.std.specs.Prelude.{filter}
use Rattle.mpw_columns_keys.specs.Keys.{is_of_list}
use Rattle.mpw_columns_keys.specs.Firsts.{IsFirst}
use Rattle.mpw_columns_keys.specs.declared.first.First.{First}
use Rattle.mpw_columns_keys.proofs.first.Firsts.of.Given as goal

abbrev pub invariant-loop-number : goal.invariant-loop-number
invariant-loop-number l = (l.number ≤ l.fn.lists)
    × (length l.firsts.items ≡ l.number)
    × ((n : ℕ) (d : First) → n < l.number
    → IsFirst l.fn.most (filter (is_of_list n) l.fn.keys) (get_or l.firsts.items n d))
