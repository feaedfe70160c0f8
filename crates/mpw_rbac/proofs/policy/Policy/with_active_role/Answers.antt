-- One more role acts, and the roles below it.
use Rattle.std.proofs.Common.{◌≡◌, ◌∙◌, ◌||◌, sym, ap, Option, [], ◌∷◌, ◌++◌}
use Rattle.std.specs.Option.{option_map_or}
use Rattle.mpw_roles.specs.Places.{is_place_below, is_place_under}
use Rattle.mpw_rbac.specs.Policy.{Policy, policy_of}
use Rattle.mpw_rbac.specs.Rows as rows
use Rattle.mpw_rbac.specs.declared.session.Session.{Session}
use Rattle.mpw_rbac.proofs.MaskedLemmas.{senior-more}
use Rattle.mpw_rbac.proofs.policy.Policy.with_active_role.Goals as goal

pub returns-clause-acting : goal.returns-clause-acting
returns-clause-acting c = λ place.
    let in' = c.self.inside in
    let h = in'.permissions.roles in
    let p =
    policy_of in'.users.users h in'.permissions.granted in'.sets.sets in'.sessions.sessions in
    let role = c.args.role.now in
    let before = rows.active_roles p c.args.connection in
    let found : c.in-Some.session.now.active ≡ before =
    ap (λ (o : Option Session). option_map_or (λ (s : Session). s.active) o []) c.in-Some.ensures
    ∙ ap (λ (q : Policy). rows.active_roles q c.args.connection) (sym c.self.view_is) in
    let pushed : c.push.new.self ≡ before ++ role ∷ [] = c.in_ok-push.ensures.ok
    ∙ (λ i. (c.in_ok-active.ensures ∙ found) i ++ c.in_ok-added.ensures i ∷ []) in
    c.add.ensures place
    ∙ (λ i. c.acting-acting.ensures h c.self.invariant.acting place i
    || (c.mask.ensures place ∙ ap (λ k. is_place_under k role place) c.roles.ensures) i)
    ∙ senior-more h before role place
    ∙ ap (λ l. is_place_below h l place) (sym pushed)
    ∙ ap (λ (q : Policy). is_place_below q.roles c.push.new.self place) c.self.view_is
