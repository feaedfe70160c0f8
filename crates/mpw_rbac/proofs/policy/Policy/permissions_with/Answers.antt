-- A new grant is added at the end.
use Rattle.std.proofs.Common.{◌≡◌, ◌∙◌, sym, ap, true, false, [], ◌∷◌, ◌++◌, length}
use Rattle.std.specs.Prelude.{nat_lt}
use Rattle.std.specs.List.{list_any}
use Rattle.mpw_roles.specs.Hierarchy.{is_role}
use Rattle.mpw_permissions.specs.Grant.{grant_eq}
use Rattle.mpw_permissions.specs.Permissions.{Permissions}
use Rattle.mpw_rbac.specs.Policy.{Policy}
use Rattle.mpw_rbac.proofs.RowFacts.{grant-ok}
use Rattle.mpw_rbac.proofs.policy.Policy.permissions_with.Goals as goal

pub with-requires : goal.with-requires
with-requires c = ap (λ (p : Policy). is_role p.roles c.args.grant.now.role) c.self.view_is
    ∙ sym c.is_role.ensures ∙ c.if-not-is_role.false

pub returns-clause-ok : goal.returns-clause-ok
returns-clause-ok c =
    let p = c.args.self.now in
    let new = c.args.grant.now in
    let known : is_role p.roles new.role ≡ true = sym c.is_role.ensures ∙ c.if-not-is_role.false in
    let unknown : list_any (grant_eq new) p.granted ≡ false = sym c.has_grant.ensures
    ∙ c.if-has_grant.false in
    let room : nat_lt (length p.granted) 4096 ≡ true = sym c.has_room_for_grant.ensures
    ∙ c.if-not-has_room_for_grant.false in
    let next = c.in_ok-with.field-0 in
    let is : next.granted ≡ p.granted ++ new ∷ [] =
    ap (λ (q : Permissions). q.granted) c.in_ok-with.ensures
    ∙ ap (λ (q : Policy). q.granted ++ new ∷ []) c.self.view_is in
    grant-ok p new next.granted known unknown room is

pub returns-clause-same : goal.returns-clause-same
returns-clause-same c = ap (λ (q : Permissions). q.roles) c.in_ok-with.ensures
    ∙ ap (λ (q : Policy). q.roles) c.self.view_is
