-- What policy requests ask for, as the laws of their replies need it.
use Rattle.std.specs.Prelude.{ℕ, Bool, true, false, [], ◌∷◌, ◌++◌}
use Rattle.mpw_roles.specs.Hierarchy.{with_pair}
use Rattle.mpw_rbac.specs.Policy.{Policy, assigned_roles}
use Rattle.mpw_rbac.specs.Rows as rows
use Rattle.mpw_requests.specs.declared.policy.PolicyRequest.{PolicyRequest}
use Rattle.mpw_requests.specs.declared.policy.PolicyRequest.TheVariants.{Open, Close, Activate, DropRole, Assign, Inherit, Ssd, Dsd}

-- Whether a request administers the desk.
abbrev pub is_administration : PolicyRequest → Bool
is_administration (Open user digest) = false
is_administration Close = false
is_administration (Activate role) = false
is_administration (DropRole role) = false
is_administration _ = true

-- The policy that a request asks for, if its decision table tests the sets of separation of duty. No other
-- table's denial names a set.
abbrev pub requested_policy : Policy → ℕ → PolicyRequest → Policy
requested_policy policy connection (Activate role) =
    rows.with_active policy connection (rows.active_roles policy connection ++ role ∷ [])
requested_policy policy connection (Assign user role) =
    rows.with_assigned policy user (assigned_roles policy user ++ role ∷ [])
requested_policy policy connection (Inherit senior junior) =
    record policy { roles = with_pair policy.roles senior junior }
requested_policy policy connection (Ssd set) = record policy { ssd = policy.ssd ++ set ∷ [] }
requested_policy policy connection (Dsd set) = record policy { dsd = policy.dsd ++ set ∷ [] }
requested_policy policy connection _ = policy
