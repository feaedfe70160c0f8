-- The grant is of another operation.
use Rattle.std.proofs.Common.{◌≡◌, ◌∙◌, sym, subst}
use Rattle.std.proofs.lemmas.Result.{IfOk-weaker}
use Rattle.mpw_roles.specs.Hierarchy.{role_names}
use Rattle.mpw_permissions.specs.Internal.Holders.{Buckets, IsHeldAfter}
use Rattle.mpw_permissions.proofs.GrantedLemmas.{changed-other}
use Rattle.mpw_permissions.proofs.holders.after.Goals as goal

pub returns-then-operation-index : goal.returns-then-operation-index
returns-then-operation-index c =
    let names = role_names c.args.roles.now in
    let held = IsHeldAfter c.args.more names c.args.grant.now c.args.operation c.args.shared.now in
    IfOk-weaker c.copy.result (λ (same : Buckets). same ≡ c.args.shared.now) held
    (λ same is. subst held (sym is)
    (changed-other c.args.more names c.args.grant.now c.args.operation c.args.shared.now
    (λ at. c.if-operation-index.true (at ∙ sym c.index.ensures.index)))) c.copy.ensures
