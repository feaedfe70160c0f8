-- The masks of separation sets: the indexes of each set's roles.
use Rattle.std.specs.Prelude.{◌≡◌, ℕ, ◌≤◌, ◌<◌, List, [], length, map, slice_index_or}
use Rattle.mpw_roles.specs.Hierarchy.{Name, Hierarchy}
use Rattle.mpw_roles.specs.Mask.{has}
use Rattle.mpw_roles.specs.Places.{is_place_of, is_place_below, mask_at}
use Rattle.mpw_roles.specs.declared.mask.Mask.{Mask}
use Rattle.mpw_separation.specs.Separation.{Sets}
use Rattle.mpw_separation.specs.Set.{SeparationSet}
use Rattle.mpw_separation.specs.declared.set.Kind.{Kind}
use Rattle.mpw_separation.specs.declared.set.Kind.TheVariants.{Static, Dynamic}

-- the sets, and the masks of the sets of each kind
pub record KeptSets : Type 0 where
  pub sets : Sets
  pub ssd : List Mask
  pub dsd : List Mask

abbrev pub masks_of : Kind → KeptSets → List Mask
masks_of Static kept = kept.ssd
masks_of Dynamic kept = kept.dsd

-- the roles of each set
abbrev pub role_lists : List SeparationSet → List (List Name)
role_lists sets = map (λ (set : SeparationSet). set.roles) sets

-- the mask has the indexes of the names among the roles, and no other
abbrev pub IsPlaced : List Name → List Name → Mask → Type 0
IsPlaced roles names mask = (place : ℕ) → has mask place ≡ is_place_of roles names place

-- the mask has the indexes of the roles at or below the seniors, and no other
abbrev pub IsBelow : Hierarchy → List Name → Mask → Type 0
IsBelow hierarchy seniors mask =
    (place : ℕ) → has mask place ≡ is_place_below hierarchy seniors place

-- the mask at the index of each set has the indexes of its roles
abbrev pub ArePlaced : List Name → List SeparationSet → List Mask → Type 0
ArePlaced roles sets masks = (k : ℕ) → k < length sets
    → IsPlaced roles (slice_index_or (role_lists sets) k []) (mask_at masks k)

-- the masks of both kinds
pub record AreSetsPlaced (roles : List Name) (kept : KeptSets) : Type 0 where
  pub static : ArePlaced roles kept.sets.ssd kept.ssd
  pub dynamic : ArePlaced roles kept.sets.dsd kept.dsd

-- a mask for each set
pub record AreLong (sets : Sets) (ssd dsd : List Mask) : Type 0 where
  pub static : length sets.ssd ≤ length ssd
  pub dynamic : length sets.dsd ≤ length dsd
