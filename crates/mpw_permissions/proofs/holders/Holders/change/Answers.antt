-- A grant of the operation to a role is one index more or less; others change nothing.
use Rattle.std.proofs.Common.{◌∙◌, sym, ap, ◌||◌, ◌&&◌, ◌==◌, not}
use Rattle.std.proofs.lemmas.Result.{on_ok_weaker}
use Rattle.mpw_roles.specs.Hierarchy.{role_names}
use Rattle.mpw_permissions.proofs.GrantedLemmas.{changed-other, changed-stranger, changed-place, unplaced}
use Rattle.mpw_permissions.proofs.holders.Holders.change.Goals as goal

pub returns-then-index-operation : goal.returns-then-index-operation
returns-then-index-operation c =
    changed-other c.args.more (role_names c.args.roles.now) c.args.grant.now c.args.operation
    c.args.self.now (λ is. c.if-index-operation.true (c.index.ensures.index ∙ sym is))

pub returns-in_default : goal.returns-in_default
returns-in_default c =
    changed-stranger c.args.more (role_names c.args.roles.now) c.args.grant.now c.args.operation
    c.args.self.now (unplaced (role_names c.args.roles.now) c.args.grant.now.role
    c.in_default.ensures.place)

pub returns : goal.returns
returns c =
    let place = c.in-Some.place in
    on_ok_weaker c.put.result (changed-place c.args.more (role_names c.args.roles.now) c.is_hierarchy.ensures.roles_once
    c.args.grant.now c.args.operation c.args.self.now c.put.new.self place
    c.with_place-mask.result
    (sym c.index.ensures.index ∙ c.if-index-operation.false) c.in-Some.ensures.place
    (λ is q. c.with_place-mask.ensures.more is q ∙ ap (λ b. b || (q == place)) (c.of.ensures q))
    (λ is q. c.with_place-mask.ensures.less is q ∙ ap (λ b. b && not (q == place)) (c.of.ensures q))) c.put.ensures
