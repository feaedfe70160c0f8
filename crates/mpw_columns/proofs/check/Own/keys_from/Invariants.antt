-- The invariants of the loops of `Own::keys_from` in `src/check.rt`.
use Rattle.std.proofs.Common.{◌≡◌, ◌≤◌, length, sum_by, take}
use Rattle.std.specs.List.{range_with_len}
use Rattle.mpw_columns_keys.specs.Firsts.{capped}
use Rattle.mpw_columns.specs.Internal.Counted.{keys_at}
use Rattle.mpw_columns.proofs.check.Own.keys_from.Given as goal

abbrev pub invariant-loop-k : goal.invariant-loop-k
invariant-loop-k l = (l.k ≤ length l.lists) × (l.keys
    ≡ capped (sum_by (keys_at l.fn.self.shares.now l.from l.lists)
    (take l.k (range_with_len 0 (length l.lists)))))
