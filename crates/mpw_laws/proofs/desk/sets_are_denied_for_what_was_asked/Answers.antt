-- Answers to the goals of `sets_are_denied_for_what_was_asked` in `src/desk.rt`.
use Rattle.std.proofs.Common.{ℕ}
use Rattle.mpw_requests.specs.declared.policy.PolicyRequest.{PolicyRequest}
use Rattle.mpw_requests.specs.declared.policy.PolicyRequest.TheVariants.{Open, Close, Activate, DropRole, AddUser, DelUser, AddRole, DelRole, Assign, Deassign, Grant, Revoke, Inherit, Uninherit, Ssd, Dsd, UnSsd, UnDsd}
use Rattle.mpw_requests.specs.declared.request.Request.TheVariants as ask
use Rattle.mpw_trail.specs.declared.verdict.Denial.TheVariants as denial
use Rattle.mpw_replies.specs.declared.row.Ending.TheVariants as ending
use Rattle.mpw_events.specs.PolicyRows.{row_of}
use Rattle.mpw_laws.specs.Requested.{requested_policy}
use Rattle.mpw_laws.proofs.DenialLemmas.{denied-row}
use Rattle.mpw_laws.proofs.GuardLemmas.{table_ended}
use Rattle.mpw_laws.proofs.SetLemmas.{TellsRightly, tells_none}
use Rattle.mpw_laws.proofs.desk.sets_are_denied_for_what_was_asked.Goals as goal

pub returns : goal.returns
returns c =
    let told = c.sets_are_told_where_they_are_tested.ensures in
    let least = c.denied_only_for_the_least_broken_set.ensures in
    let each : (connection : ℕ) (request : PolicyRequest) → TellsRightly
    (λ p. row_of p connection request) (λ p. requested_policy p connection request) =
    λ connection. elim [
      | Open user digest ↦ tells_none _ _ (told.open_session_static connection user digest)
          (told.open_session_dynamic connection user digest)
      | Close ↦ tells_none _ _ (λ p name is. cc) (λ p name is. cc)
      | Activate role ↦ record {
        static = λ p name is. absurd (told.activate_static connection role p name is);
        dynamic = λ p name is. least.activate p connection role name is;
      }
      | DropRole role ↦ tells_none _ _ (told.drop_role_static connection role)
          (told.drop_role_dynamic connection role)
      | AddUser user digest ↦ tells_none _ _ (told.adduser_static user digest)
          (told.adduser_dynamic user digest)
      | DelUser user ↦ tells_none _ _ (told.deluser_static user)
          (told.deluser_dynamic user)
      | AddRole role ↦ tells_none _ _ (told.addrole_static role)
          (told.addrole_dynamic role)
      | DelRole role ↦ tells_none _ _ (told.delrole_static role)
          (told.delrole_dynamic role)
      | Assign user role ↦ record {
        static = λ p name is. least.assign p user role name is;
        dynamic = λ p name is. absurd (told.assign_dynamic user role p name is);
      }
      | Deassign user role ↦ tells_none _ _ (told.deassign_static user role)
          (told.deassign_dynamic user role)
      | Grant grant ↦ tells_none _ _ (told.grant_static grant)
          (told.grant_dynamic grant)
      | Revoke grant ↦ tells_none _ _ (told.revoke_static grant)
          (told.revoke_dynamic grant)
      | Inherit senior junior ↦ record {
        static = λ p name is. least.inherit_static p senior junior name is;
        dynamic = λ p name is. least.inherit_dynamic p senior junior name is;
      }
      | Uninherit senior junior ↦ tells_none _ _ (told.uninherit_static senior junior)
          (told.uninherit_dynamic senior junior)
      | Ssd set ↦ record {
        static = λ p name is. least.ssd p set name is;
        dynamic = λ p name is. absurd (told.ssd_dynamic set p name is);
      }
      | Dsd set ↦ record {
        static = λ p name is. absurd (told.dsd_static set p name is);
        dynamic = λ p name is. least.dsd p set name is;
      }
      | UnSsd name ↦ tells_none _ _ (told.unssd_static name)
          (told.unssd_dynamic name)
      | UnDsd name ↦ tells_none _ _ (told.undsd_static name)
          (told.undsd_dynamic name)
    ] in
    let lacked = c.entering_is_by_the_need.ensures.lacks in
    record {
      ssd = λ s connection request kept name e. (each connection request).static s.policy name
          (denied-row s connection request (denial.Ssd name) (table_ended lacked s connection
          (ask.Policy request) kept (ending.Denied (denial.Ssd name)) (λ is. cc) (λ no. no) e));
      dsd = λ s connection request kept name e. (each connection request).dynamic s.policy name
          (denied-row s connection request (denial.Dsd name) (table_ended lacked s connection
          (ask.Policy request) kept (ending.Denied (denial.Dsd name)) (λ is. cc) (λ no. no) e));
    }
