-- The invariants of the loops of `union_of_masks` in `src/roles.rt`.
use Rattle.std.proofs.Common.{◌≡◌, ℕ, ◌||◌, drop}
use Rattle.mpw_roles.specs.Mask.{has}
use Rattle.mpw_roles.specs.Places.{is_place_below}
use Rattle.mpw_roles.proofs.roles.union_of_masks.Given as goal

-- the indexes so far and those that are left are all
abbrev pub invariant-loop-senior : goal.invariant-loop-senior
invariant-loop-senior l = (q : ℕ) → (has l.mask q
    || is_place_below l.table (drop l.senior-index l.seniors) q) ≡ is_place_below
    l.table l.seniors q
