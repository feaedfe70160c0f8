-- Without a session the policy is the same as after its end.
use Rattle.std.proofs.Common.{◌≡◌, ◌∙◌, false, sym, ap, refl}
use Rattle.std.specs.Prelude.{is_some}
use Rattle.mpw_rbac.specs.Policy.{Policy, session_of}
use Rattle.mpw_rbac.proofs.RowLemmas.{end-absent}
use Rattle.mpw_core.proofs.answer.parting.Goals as goal

pub returns-then-not-has_session : goal.returns-then-not-has_session
returns-then-not-has_session c = λ state same.
    let none : is_some (session_of c.args.policy.now c.args.connection) ≡ false =
    sym c.has_session.ensures ∙ c.if-not-has_session.true in
    let absent : is_some (session_of state.policy c.args.connection) ≡ false =
    ap (λ (p : Policy). is_some (session_of p c.args.connection)) same ∙ none in
    record {
      told = refl;
      left = ap (λ (p : Policy). record state { policy = p })
          (sym (end-absent state.policy c.args.connection absent));
      changes = sym absent;
      fits = tt;
    }
