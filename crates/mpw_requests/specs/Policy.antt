-- The requests that change the policy: what each needs, its line, and its parts.
use Rattle.std.specs.Prelude.{ℕ, List, codes, Option, None, Some}
use Rattle.mpw_permissions.specs.declared.permission.Object.TheVariants.{Desk}
use Rattle.mpw_permissions.specs.declared.permission.Operation.TheVariants as to
use Rattle.mpw_requests.specs.declared.policy.PolicyRequest.{PolicyRequest}
use Rattle.mpw_requests.specs.declared.policy.PolicyRequest.TheVariants as ask
use Rattle.mpw_requests.specs.declared.policy.PolicyVerb.{PolicyVerb}
use Rattle.mpw_requests.specs.declared.policy.PolicyVerb.TheVariants.{Open, Close, Activate, DropRole, AddUser, DelUser, AddRole, DelRole, Assign, Deassign, Grant, Revoke, Inherit, Uninherit, Ssd, Dsd, UnSsd, UnDsd}
use Rattle.mpw_requests.specs.declared.need.Need.{Need}
use Rattle.mpw_requests.specs.declared.need.Need.TheVariants.{Nothing, Session, Permission}
use Rattle.mpw_requests.specs.declared.parts.Operands.{Operands}
use Rattle.mpw_requests.specs.declared.parts.Operands.TheVariants as operands
use Rattle.mpw_requests.specs.declared.request.Request.{Request}
use Rattle.mpw_requests.specs.declared.request.Request.TheVariants as group
use Rattle.mpw_requests.specs.declared.table.Shape.{Shape}
use Rattle.mpw_requests.specs.declared.table.Shape.TheVariants as shape
use Rattle.mpw_requests.specs.declared.table.Verb.{Verb}
use Rattle.mpw_requests.specs.declared.table.Verb.TheVariants as verb

-- `open` needs nothing, and a request about one's own session needs that session. The other fourteen requests that
-- change the policy need the permission to administer the desk.
abbrev pub policy_need : PolicyRequest → Need
policy_need (ask.Open user digest) = Nothing
policy_need ask.Close = Session
policy_need (ask.Activate role) = Session
policy_need (ask.DropRole role) = Session
policy_need request = Permission to.Admin Desk

-- the word of a verb, and the shape of its operands
abbrev pub policy_form : PolicyVerb → List ℕ × Shape
policy_form Open = (codes "open", shape.Login)
policy_form Close = (codes "close", shape.Alone)
policy_form Activate = (codes "activate", shape.Name)
policy_form DropRole = (codes "drop", shape.Name)
policy_form AddUser = (codes "adduser", shape.Login)
policy_form DelUser = (codes "deluser", shape.Name)
policy_form AddRole = (codes "addrole", shape.Name)
policy_form DelRole = (codes "delrole", shape.Name)
policy_form Assign = (codes "assign", shape.Pair)
policy_form Deassign = (codes "deassign", shape.Pair)
policy_form Grant = (codes "grant", shape.Grant)
policy_form Revoke = (codes "revoke", shape.Grant)
policy_form Inherit = (codes "inherit", shape.Pair)
policy_form Uninherit = (codes "uninherit", shape.Pair)
policy_form Ssd = (codes "ssd", shape.Set)
policy_form Dsd = (codes "dsd", shape.Set)
policy_form UnSsd = (codes "unssd", shape.Name)
policy_form UnDsd = (codes "undsd", shape.Name)

-- the verb and the operands of a request
abbrev pub policy_parts : PolicyRequest → Verb × Operands
policy_parts (ask.Open user digest) = (verb.Policy Open, operands.Login user digest)
policy_parts ask.Close = (verb.Policy Close, operands.Alone)
policy_parts (ask.Activate role) = (verb.Policy Activate, operands.Name role)
policy_parts (ask.DropRole role) = (verb.Policy DropRole, operands.Name role)
policy_parts (ask.AddUser user digest) = (verb.Policy AddUser, operands.Login user digest)
policy_parts (ask.DelUser user) = (verb.Policy DelUser, operands.Name user)
policy_parts (ask.AddRole role) = (verb.Policy AddRole, operands.Name role)
policy_parts (ask.DelRole role) = (verb.Policy DelRole, operands.Name role)
policy_parts (ask.Assign user role) = (verb.Policy Assign, operands.Pair user role)
policy_parts (ask.Deassign user role) = (verb.Policy Deassign, operands.Pair user role)
policy_parts (ask.Grant grant) = (verb.Policy Grant, operands.Grant grant)
policy_parts (ask.Revoke grant) = (verb.Policy Revoke, operands.Grant grant)
policy_parts (ask.Inherit senior junior) = (verb.Policy Inherit, operands.Pair senior junior)
policy_parts (ask.Uninherit senior junior) = (verb.Policy Uninherit, operands.Pair senior junior)
policy_parts (ask.Ssd set) = (verb.Policy Ssd, operands.Set set)
policy_parts (ask.Dsd set) = (verb.Policy Dsd, operands.Set set)
policy_parts (ask.UnSsd name) = (verb.Policy UnSsd, operands.Name name)
policy_parts (ask.UnDsd name) = (verb.Policy UnDsd, operands.Name name)

-- the request of a verb and its operands, if they have the verb's shape
abbrev pub policy_request : PolicyVerb → Operands → Option Request
policy_request Open (operands.Login user digest) = Some (group.Policy (ask.Open user digest))
policy_request Close operands.Alone = Some (group.Policy ask.Close)
policy_request Activate (operands.Name role) = Some (group.Policy (ask.Activate role))
policy_request DropRole (operands.Name role) = Some (group.Policy (ask.DropRole role))
policy_request AddUser (operands.Login user digest) = Some (group.Policy (ask.AddUser user digest))
policy_request DelUser (operands.Name user) = Some (group.Policy (ask.DelUser user))
policy_request AddRole (operands.Name role) = Some (group.Policy (ask.AddRole role))
policy_request DelRole (operands.Name role) = Some (group.Policy (ask.DelRole role))
policy_request Assign (operands.Pair user role) = Some (group.Policy (ask.Assign user role))
policy_request Deassign (operands.Pair user role) = Some (group.Policy (ask.Deassign user role))
policy_request Grant (operands.Grant grant) = Some (group.Policy (ask.Grant grant))
policy_request Revoke (operands.Grant grant) = Some (group.Policy (ask.Revoke grant))
policy_request Inherit (operands.Pair senior junior) =
    Some (group.Policy (ask.Inherit senior junior))
policy_request Uninherit (operands.Pair senior junior) =
    Some (group.Policy (ask.Uninherit senior junior))
policy_request Ssd (operands.Set set) = Some (group.Policy (ask.Ssd set))
policy_request Dsd (operands.Set set) = Some (group.Policy (ask.Dsd set))
policy_request UnSsd (operands.Name name) = Some (group.Policy (ask.UnSsd name))
policy_request UnDsd (operands.Name name) = Some (group.Policy (ask.UnDsd name))
policy_request verb operands = None
