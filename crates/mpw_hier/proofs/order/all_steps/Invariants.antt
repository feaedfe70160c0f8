-- The invariants of the loops of `all_steps` in `src/order.rt`.
use Rattle.std.proofs.Common.{◌≡◌, ◌+◌, length, map, take}
use Rattle.mpw_hier.proofs.order.all_steps.Given as goal

-- the steps of the places so far
abbrev pub invariant-loop-place : goal.invariant-loop-place
invariant-loop-place l = l.left.items ≡ map (λ places. length places + 2) (take l.place l.graph)
