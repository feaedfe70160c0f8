-- The policy that the fields show, and what it preserves if only its sets change.
use Rattle.std.specs.Prelude.{◌≡◌}
use Rattle.mpw_roles.specs.Hierarchy.{Hierarchy, role_names}
use Rattle.mpw_separation.specs.Placed.{AreSetsPlaced, KeptSets}
use Rattle.mpw_rbac.specs.Masked.{IsPolicy}
use Rattle.mpw_rbac.specs.Policy.{Policy, policy_of}
use Rattle.mpw_rbac.specs.Sound.{Sound}
use Rattle.mpw_rbac.specs.declared.policy.Policy.TheInside.{Inside}
use Rattle.mpw_rbac.proofs.PlacedLemmas.{placed-after}

abbrev pub shown : Inside → Policy
shown p = policy_of p.users.users p.permissions.roles p.permissions.granted p.sets.sets
    p.sessions.sessions

abbrev IsKept : Inside → KeptSets → Type 0
IsKept p sets = IsPolicy p.users p.permissions.roles p.permissions.granted sets p.sessions

-- other sets that leave it sound, with right masks if those before were right
pub with-sets : (p : Inside) (h : Hierarchy) (sets : KeptSets) → IsKept p p.sets
    → h ≡ p.permissions.roles
    → (AreSetsPlaced (role_names h) p.sets → AreSetsPlaced (role_names h) sets)
    → Sound (policy_of p.users.users p.permissions.roles p.permissions.granted sets.sets
    p.sessions.sessions) → IsKept p sets
with-sets p h sets kept same places sound =
    record {
      sound = sound;
      authorized = kept.authorized;
      acting = kept.acting;
      placed = placed-after p.permissions.roles h same p.sets sets places kept.placed;
    }
