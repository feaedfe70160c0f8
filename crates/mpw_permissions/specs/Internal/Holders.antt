-- The holders of a permission, by the indexes of their roles.
use Rattle.std.specs.Prelude.{◌≡◌, ◌⊎◌, ℕ, ◌<◌, ◌/◌, ◌%◌, Bool, true, false, not, ◌&&◌, ◌==◌, List, [], ◌∷◌, ◌++◌, length, filter, fold, nat_lt, slice_index_or, Option, None, Some, if◌then◌else◌}
use Rattle.std.specs.Hash as fed
use Rattle.std.specs.Hash.FoldHasher as folding
use Rattle.std.specs.List.{list_any, list_all}
use Rattle.std.specs.Option.{option_map_or}
use Rattle.mpw_geom.specs.Names.{name_eq, contains_name}
use Rattle.mpw_roles.specs.Hierarchy.{Name, Hierarchy}
use Rattle.mpw_roles.specs.Mask.{has}
use Rattle.mpw_roles.specs.declared.mask.Mask.{Mask}
use Rattle.mpw_permissions.specs.declared.bucket.Held.{Held}
use Rattle.mpw_permissions.specs.declared.permission.Object.{Object}
use Rattle.mpw_permissions.specs.declared.permission.Object.TheVariants.{Cell, Desk}
use Rattle.mpw_permissions.specs.declared.permission.Grant.{Grant}
use Rattle.mpw_permissions.specs.Grant.{operation_index, object_eq, grant_eq}

-- whether the grant is of the operation at that index among all, on this object, to this role
abbrev pub is_grant_of : ℕ → Object → Name → Grant → Bool
is_grant_of operation object role grant =
    (operation == operation_index grant.operation)
    && (object_eq object grant.object && name_eq role grant.role)

-- whether the index is that of a role with a grant of the operation on the object
abbrev pub is_place_granted : List Name → List Grant → ℕ → Object → ℕ → Bool
is_place_granted roles granted operation object place =
    nat_lt place (length roles) && list_any
    (is_grant_of operation object (slice_index_or roles place [])) granted

-- a hash of a name, and of an object's
unfoldable pub name_hash : Name → ℕ
name_hash name = folding.finish (fold folding.write folding.initial (fed.str name))

unfoldable pub hash : Object → ℕ
hash Desk = 0
hash (Cell name) = name_hash name

-- the group of an object's bucket, and the bucket's index in it
unfoldable pub group_of : Object → ℕ
group_of object = hash object / 16 % 32

unfoldable pub bucket_of : Object → ℕ
bucket_of object = hash object % 16

-- the mask of an object of one bucket
abbrev pub mask_in : List Held → Object → Option Mask
mask_in [] object = None
mask_in (held ∷ others) object =
    if object_eq object held.object then Some held.mask else mask_in others object

-- whether the index is in the mask of an object of one bucket
abbrev pub holds_in : List Held → Object → ℕ → Bool
holds_in bucket object place = option_map_or (λ mask. has mask place) (mask_in bucket object) false

-- whether the index is in the mask of an object of one group of buckets
abbrev pub holds_within : List (List Held) → Object → ℕ → Bool
holds_within group object place =
    holds_in (slice_index_or group (bucket_of object) []) object place

-- the masks of the objects in their buckets, in groups
abbrev pub Buckets : Type 0
Buckets = List (List (List Held))

-- whether the index is in the mask of an object
abbrev pub holds : Buckets → Object → ℕ → Bool
holds buckets object place = holds_within (slice_index_or buckets (group_of object) []) object place

-- the masks of one operation are those of its grants
pub record IsHeld (roles : List Name) (granted : List Grant) (operation : ℕ) (buckets : Buckets) :
    Type 0 where
  pub exact : (object : Object) (place : ℕ)
      → holds buckets object place ≡ is_place_granted roles granted operation object place

-- the same for each operation
pub record AreHeld (roles : List Name) (granted : List Grant) (tables : List Buckets) : Type 0 where
  pub all : length tables ≡ 11
  pub exact : (operation : ℕ) → operation < 11
      → IsHeld roles granted operation (slice_index_or tables operation [])

-- the grants with one more at their end, or without one
abbrev pub grants_after : Bool → List Grant → Grant → List Grant
grants_after more granted grant =
    if more then granted ++ grant ∷ [] else filter (λ other. not (grant_eq grant other)) granted

-- if the masks of one operation were those of some grants, they are those of the grants after the change
pub record IsHeldAfter (more : Bool) (roles : List Name) (grant : Grant) (operation : ℕ)
    (old new : Buckets) : Type 0 where
  pub after : (granted : List Grant) → IsHeld roles granted operation old
      → IsHeld roles (grants_after more granted grant) operation new

-- the same for each operation
pub record AreHeldAfter (more : Bool) (roles : List Name) (grant : Grant) (old new : List Buckets) :
    Type 0 where
  pub all : length new ≡ 11
  pub after : (operation : ℕ) → operation < 11
      → IsHeldAfter more roles grant operation (slice_index_or old operation [])
      (slice_index_or new operation [])

-- whether each grant is to a role
abbrev pub are_to_roles : List Name → List Grant → Bool
are_to_roles roles granted = list_all (λ (grant : Grant). contains_name roles grant.role) granted

-- each grant is to a role, and the masks are those of the grants
abbrev pub ArePermissions : List Name → List Grant → List Buckets → Type 0
ArePermissions roles granted tables =
    AreHeld roles granted tables × (are_to_roles roles granted ≡ true)
