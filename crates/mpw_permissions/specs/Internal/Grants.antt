-- Grants in blocks, each with the slots of its objects and of its roles.
use Rattle.std.specs.Prelude.{◌≡◌, ℕ, ◌%◌, true, not, List, filter}
use Rattle.std.specs.List.{list_all}
use Rattle.mpw_roles.specs.Mask.{has}
use Rattle.mpw_roles.specs.declared.mask.Mask.{Mask}
use Rattle.mpw_permissions.specs.declared.block.Slots.{Slots}
use Rattle.mpw_permissions.specs.declared.permission.Grant.{Grant}
use Rattle.mpw_permissions.specs.Grant.{grant_eq}
use Rattle.mpw_permissions.specs.Internal.Holders.{hash, name_hash}

-- the slots of a grant's object and of its role: hashes of their names
unfoldable pub object_slot : Grant → ℕ
object_slot grant = hash grant.object % 512

unfoldable pub role_slot : Grant → ℕ
role_slot grant = name_hash grant.role % 512

abbrev pub AreSlots : Slots → Grant → Type 0
AreSlots slots grant = (slots.object ≡ object_slot grant) × (slots.role ≡ role_slot grant)

-- the slot of each grant is in the mask
abbrev pub IsCovered : (Grant → ℕ) → Mask → List Grant → Type 0
IsCovered slot mask grants = list_all (λ grant. has mask (slot grant)) grants ≡ true

abbrev pub AreCovered : Mask → Mask → List Grant → Type 0
AreCovered objects roles grants =
    IsCovered object_slot objects grants × IsCovered role_slot roles grants
