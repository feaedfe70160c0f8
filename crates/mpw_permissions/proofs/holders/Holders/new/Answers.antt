-- No group has a mask.
use Rattle.std.proofs.Common.{◌≡◌, ℕ, false, List, [], refl, sym, subst, get_or}
use Rattle.mpw_permissions.specs.Internal.Holders.{holds_within, group_of}
use Rattle.mpw_permissions.specs.declared.bucket.Held.{Held}
use Rattle.mpw_permissions.specs.declared.permission.Object.{Object}
use Rattle.mpw_permissions.proofs.BucketLemmas.{replicated-each}
use Rattle.mpw_permissions.proofs.holders.Holders.new.Goals as goal

-- no object has a mask in it
abbrev HoldsNone : List (List Held) → Type 0
HoldsNone group = (object : Object) (place : ℕ) → holds_within group object place ≡ false

pub returns : goal.returns
returns c = λ object place.
    let groups = c.in_ok-groups.ensures.items_if_clones_equal (λ copy is. is) in
    subst (λ l. HoldsNone (get_or l (group_of object) [])) (sym groups)
    (replicated-each HoldsNone (λ o q. refl) c.in_ok-new.field-0 c.in_ok-new.ensures 32
    (group_of object)) object place
