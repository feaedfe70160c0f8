-- Answers to the goals of `own_requests_are_never_denied_a_permission` in `src/desk.rt`.
use Rattle.std.proofs.Common.{◌≡◌, false, inl, inr}
use Rattle.mpw_requests.specs.declared.policy.PolicyRequest.{PolicyRequest}
use Rattle.mpw_requests.specs.declared.policy.PolicyRequest.TheVariants.{Close}
use Rattle.mpw_requests.specs.declared.need.Need.TheVariants.{Permission}
use Rattle.mpw_requests.specs.declared.request.Request.TheVariants as ask
use Rattle.mpw_requests.specs.Needs.{policy_need}
use Rattle.mpw_replies.specs.Rows.{denied}
use Rattle.mpw_laws.specs.Requested.{is_administration}
use Rattle.mpw_laws.proofs.DenialLemmas.{allows-row}
use Rattle.mpw_laws.proofs.GuardLemmas.{guarded_ended}
use Rattle.mpw_laws.proofs.desk.own_requests_are_never_denied_a_permission.Goals as goal

pub returns : goal.returns
returns c = λ s connection request kept operation object is e.
    let never : (asked : PolicyRequest) → is_administration asked ≡ false
    → policy_need asked ≡ Permission operation object → ⊥ = elim [
      | Close ↦ λ own need. cc
      | _ ↦ λ own need. cc
    ] in
    elim (guarded_ended s connection (ask.Policy request) kept (denied operation object)
    (λ is. cc) e) [
      | inl g ↦ never request is (c.entering_is_by_the_need.ensures.lacks s.policy connection
          (policy_need request) (denied operation object) g).0
      | inr r ↦ allows-row s connection request operation object r
    ]
