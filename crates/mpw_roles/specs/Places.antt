-- The index of a role is its position in the order of the roles. Masks have indexes.
use Rattle.std.specs.Prelude.{◌≡◌, ℕ, zero, suc, ◌≤◌, ◌<◌, Bool, ◌&&◌, List, [], ◌∷◌, length, nat_lt, slice_index_or}
use Rattle.mpw_geom.specs.Names.{contains_name}
use Rattle.mpw_roles.specs.Hierarchy.{Name, Hierarchy, role_names}
use Rattle.mpw_roles.specs.Marks.{Marks}
use Rattle.mpw_roles.specs.Mask.{has}
use Rattle.mpw_roles.specs.Order.{at_least, is_below, IsHierarchy}
use Rattle.mpw_roles.specs.declared.mask.Mask.{Mask}

-- the role at an index
abbrev pub name_at : Hierarchy → ℕ → Name
name_at hierarchy place = slice_index_or (role_names hierarchy) place []

-- whether the index is that of a role that the senior is at least
abbrev pub is_place_under : Hierarchy → Name → ℕ → Bool
is_place_under hierarchy senior place =
    nat_lt place (length hierarchy) && at_least hierarchy senior (name_at hierarchy place)

-- whether the index is that of a role at or below one of the seniors
abbrev pub is_place_below : Hierarchy → List Name → ℕ → Bool
is_place_below hierarchy seniors place =
    nat_lt place (length hierarchy) && is_below hierarchy seniors (name_at hierarchy place)

-- whether the index, among these roles, is that of one of the names
abbrev pub is_place_of : List Name → List Name → ℕ → Bool
is_place_of roles names place =
    nat_lt place (length roles) && contains_name names (slice_index_or roles place [])

-- the marks of that many indexes from one on
abbrev pub marks_from : ℕ → ℕ → Mask → Marks
marks_from place zero mask = []
marks_from place (suc n) mask = has mask place ∷ marks_from (suc place) n mask

-- the empty set
abbrev pub no_mask : Mask
no_mask = record { words = [] }

abbrev pub mask_at : List Mask → ℕ → Mask
mask_at masks place = slice_index_or masks place no_mask

-- the mask at the index of a role has the indexes of the roles at or below it, and no other
pub record IsMasked (hierarchy : Hierarchy) (masks : List Mask) : Type 0 where
  pub long : length hierarchy ≤ length masks
  pub exact : (place : ℕ) → place < length hierarchy → (other : ℕ)
      → has (mask_at masks place) other ≡ is_place_under hierarchy (name_at hierarchy place) other

-- the invariant of roles: a hierarchy, and its masks
pub record IsRoles (hierarchy : Hierarchy) (masks : List Mask) : Type 0 where
  pub kept : IsHierarchy hierarchy
  pub masked : IsMasked hierarchy masks
