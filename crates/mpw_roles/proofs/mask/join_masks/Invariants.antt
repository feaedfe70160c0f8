-- The invariants of the loops of `join_masks` in `src/mask.rt`.
use Rattle.std.proofs.Common.{◌≡◌, ℕ, ◌||◌, ◌&&◌, ◌<◌, ◌≤◌}
use Rattle.mpw_roles.specs.Mask.{has}
use Rattle.mpw_roles.specs.Places.{mask_at}
use Rattle.mpw_roles.proofs.mask.join_masks.Given as goal

-- the masks so far are joined, and the others are unchanged
abbrev pub invariant-loop-k : goal.invariant-loop-k
invariant-loop-k l = record {
  done : (p : ℕ) → p < l.k → (q : ℕ)
      → has (mask_at l.masks p) q ≡ (has (mask_at l.fn.masks p) q
      || (has (mask_at l.fn.masks p) l.place && has l.added q));
  rest : (p : ℕ) → l.k ≤ p → mask_at l.masks p ≡ mask_at l.fn.masks p;
}
