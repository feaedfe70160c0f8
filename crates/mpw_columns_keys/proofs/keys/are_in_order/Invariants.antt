-- The invariants of the loops of `are_in_order` in `src/keys.rt`.
use Rattle.std.proofs.Common.{◌≡◌, ◌-◌, drop}
use Rattle.mpw_columns_keys.specs.Keys.{are_in_order}
use Rattle.mpw_columns_keys.proofs.keys.are_in_order.Given as goal

abbrev pub invariant-loop-place : goal.invariant-loop-place
invariant-loop-place l = are_in_order (drop (l.place - 1) l.keys) ≡ are_in_order l.keys
