-- The invariants of the loops of `write_masks` in `src/placed.rt`.
use Rattle.std.proofs.Common.{◌≡◌, ℕ, ◌<◌, [], length}
use Rattle.std.specs.Prelude.{slice_index_or}
use Rattle.mpw_roles.specs.Hierarchy.{role_names}
use Rattle.mpw_roles.specs.Mask.{has}
use Rattle.mpw_roles.specs.Places.{is_place_of, mask_at}
use Rattle.mpw_separation.specs.Placed.{role_lists}
use Rattle.mpw_separation.proofs.placed.write_masks.Given as goal

-- the masks so far are made
abbrev pub invariant-loop-index : goal.invariant-loop-index
invariant-loop-index l = record {
  long : length l.masks ≡ length l.fn.masks;
  placed : (k : ℕ) → k < l.index → (q : ℕ)
      → has (mask_at l.masks k) q
      ≡ is_place_of (role_names l.roles) (slice_index_or (role_lists l.sets) k []) q;
}
