-- The invariants of the loops of `places_of` in `src/places.rt`.
use Rattle.std.proofs.Common.{◌≡◌, ℕ, ◌||◌, drop}
use Rattle.mpw_roles.specs.Hierarchy.{role_names}
use Rattle.mpw_roles.specs.Mask.{has}
use Rattle.mpw_roles.specs.Places.{is_place_of}
use Rattle.mpw_roles.proofs.places.places_of.Given as goal

-- the indexes so far and those that are left are all
abbrev pub invariant-loop-name : goal.invariant-loop-name
invariant-loop-name l = (q : ℕ) → (has l.mask q
    || is_place_of (role_names l.table) (drop l.name-index l.names) q) ≡ is_place_of
    (role_names l.table) l.names q
