-- The invariants of the loops of `write_all_own` in `src/remask.rt`.
use Rattle.std.proofs.Common.{◌≡◌, ℕ, ◌<◌, eqb, length}
use Rattle.mpw_roles.specs.Mask.{has}
use Rattle.mpw_roles.specs.Places.{mask_at}
use Rattle.mpw_roles.proofs.remask.write_all_own.Given as goal

-- the masks so far are written
abbrev pub invariant-loop-place : goal.invariant-loop-place
invariant-loop-place l = record {
  own : (p : ℕ) → p < l.place → (q : ℕ) → has (mask_at l.masks p) q ≡ eqb q p;
  long : length l.masks ≡ length l.fn.masks;
}
