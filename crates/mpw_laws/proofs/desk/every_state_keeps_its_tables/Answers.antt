-- Answers to the goals of `every_state_keeps_its_tables` in `src/desk.rt`.
use Rattle.std.proofs.Common.{ℕ}
use Rattle.mpw_rbac_laws.specs.Existing.{AreTablesSound}
use Rattle.mpw_requests.specs.declared.policy.PolicyRequest.{PolicyRequest}
use Rattle.mpw_requests.specs.declared.policy.PolicyRequest.TheVariants.{Open, Close, Activate, DropRole, AddUser, DelUser, AddRole, DelRole, Assign, Deassign, Grant, Revoke, Inherit, Uninherit, Ssd, Dsd, UnSsd, UnDsd}
use Rattle.mpw_laws.proofs.KeptLemmas.{KeepsEntered, kept-history}
use Rattle.mpw_laws.proofs.desk.every_state_keeps_its_tables.Goals as goal

pub returns : goal.returns
returns c = λ officer digest calls.
    let law = c.each_request_keeps_the_tables.ensures in
    let keeps : (connection : ℕ) (request : PolicyRequest) → KeepsEntered AreTablesSound connection
    request = λ connection. elim [
      | Open user digest ↦ λ p met. law.open_session connection user digest p
      | Close ↦ λ p met. law.end_session connection p
      | Activate role ↦ λ p met. law.activate connection role p
      | DropRole role ↦ λ p met. law.drop_role connection role p
      | AddUser user digest ↦ λ p met. law.adduser user digest p
      | DelUser user ↦ λ p met. law.deluser user p
      | AddRole role ↦ λ p met. law.addrole role p
      | DelRole role ↦ λ p met. law.delrole role p
      | Assign user role ↦ λ p met. law.assign user role p
      | Deassign user role ↦ λ p met. law.deassign user role p
      | Grant grant ↦ λ p met. law.grant grant p
      | Revoke grant ↦ λ p met. law.revoke grant p
      | Inherit senior junior ↦ λ p met. law.inherit senior junior p
      | Uninherit senior junior ↦ λ p met. law.uninherit senior junior p
      | Ssd set ↦ λ p met q. law.ssd connection set p q met.0
      | Dsd set ↦ λ p met q. law.dsd connection set p q met.0
      | UnSsd name ↦ λ p met. law.unssd name p
      | UnDsd name ↦ λ p met. law.undsd name p
    ] in
    kept-history AreTablesSound c.entering_is_by_the_need.ensures.has keeps law.end_session
    law.end_sessions officer digest calls (law.new_desk officer digest)
