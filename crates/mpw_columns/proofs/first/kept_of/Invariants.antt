-- The invariants of the loops of `kept_of` in `src/first.rt`.
use Rattle.std.proofs.Common.{◌≡◌, length, sum_by, take}
use Rattle.mpw_columns_keys.specs.Firsts.{capped}
use Rattle.mpw_columns_keys.specs.declared.first.First.{First}
use Rattle.mpw_columns.proofs.first.kept_of.Given as goal

abbrev pub invariant-loop-list : goal.invariant-loop-list
invariant-loop-list l =
    l.kept ≡ capped (sum_by (λ (f : First). length f.keys.items)
    (take l.list-index l.lists))
