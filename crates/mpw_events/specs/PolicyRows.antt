-- The requests that change the policy, each by its decision table. The guard comes before each.
use Rattle.std.specs.Prelude.{ℕ, Result, Ok}
use Rattle.mpw_rbac.specs.declared.refusal.Refusal.{Refusal}
use Rattle.mpw_rbac.specs.Policy.{Policy}
use Rattle.mpw_rbac.specs.Rows as rows
use Rattle.mpw_requests.specs.declared.policy.PolicyRequest.{PolicyRequest}
use Rattle.mpw_requests.specs.declared.policy.PolicyRequest.TheVariants.{Open, Close, Activate, DropRole, AddUser, DelUser, AddRole, DelRole, Assign, Deassign, Grant, Revoke, Inherit, Uninherit, Ssd, Dsd, UnSsd, UnDsd}

-- the decision table of a request that changes the policy: the new policy, or the refusal of its first
-- failing test
abbrev pub row_of : Policy → ℕ → PolicyRequest → Result Policy Refusal
row_of policy connection (Open user digest) = rows.open_session policy connection user digest
row_of policy connection Close = Ok (rows.end_session policy connection)
row_of policy connection (Activate role) = rows.activate policy connection role
row_of policy connection (AddUser user digest) = rows.adduser policy user digest
row_of policy connection (AddRole role) = rows.addrole policy role
row_of policy connection (Assign user role) = rows.assign policy user role
row_of policy connection (Grant grant) = rows.grant policy grant
row_of policy connection (Revoke grant) = rows.revoke policy grant
row_of policy connection (DropRole role) = rows.drop_role policy connection role
row_of policy connection (DelUser user) = rows.deluser policy user
row_of policy connection (DelRole role) = rows.delrole policy role
row_of policy connection (Deassign user role) = rows.deassign policy user role
row_of policy connection (Inherit senior junior) = rows.inherit policy senior junior
row_of policy connection (Uninherit senior junior) = rows.uninherit policy senior junior
row_of policy connection (Ssd set) = rows.ssd policy set
row_of policy connection (Dsd set) = rows.dsd policy set
row_of policy connection (UnSsd name) = rows.unssd policy name
row_of policy connection (UnDsd name) = rows.undsd policy name
