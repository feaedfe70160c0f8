-- A role is active no longer.
use Rattle.std.proofs.Common.{◌≡◌, ◌∙◌, sym, ap, subst, Ok, ◌==◌}
use Rattle.mpw_rbac.specs.Table.{insert_entry}
use Rattle.mpw_geom.specs.Names.{without_name}
use Rattle.mpw_rbac.specs.Policy.{Policy}
use Rattle.mpw_rbac.specs.Rows as rows
use Rattle.mpw_rbac.specs.Sound.{Sound}
use Rattle.mpw_rbac.proofs.LawLemmas.{sound-drop_role}
use Rattle.mpw_rbac.proofs.RowLemmas.{active-session, drop-ok}
use Rattle.mpw_rbac.proofs.Shown.{shown}
use Rattle.mpw_rbac.specs.Masked.{IsBelow}
use Rattle.mpw_rbac.proofs.policy.Policy.drop_role.Goals.{In_ok-insert}
use Rattle.mpw_rbac.proofs.policy.Policy.drop_role.Goals as goal

-- the decision table accepts, and the policy after it is sound
accepted : (c : In_ok-insert)
    → Sound (record (shown c.self.inside) { sessions = c.insert.new.self.sessions })
    × (rows.drop_role c.args.self.now c.args.connection c.args.role.now
    ≡ Ok (record (shown c.self.inside) { sessions = c.insert.new.self.sessions }))
accepted c =
    let q = c.args.self.now in
    let connection = c.args.connection in
    let role = c.args.role.now in
    let left = c.insert.new.self.sessions in
    let is : left ≡ insert_entry (λ a b. a == b) q.sessions connection
    (record {
      user = rows.user_of q connection;
      active = without_name (rows.active_roles q connection) role;
    }) =
    c.in_ok-insert.ensures.ok
    ∙ (λ i. insert_entry (λ a b. a == b) (c.self.view_is i).sessions connection
    (c.in_ok-active.ensures.session i)) in
    let row =
    drop-ok q connection role left (sym c.is_active.ensures ∙ c.if-not-is_active.false) is in (
      subst (λ (p : Policy). Sound (record p { sessions = left })) (sym c.self.view_is)
          (sound-drop_role connection role q (record q { sessions = left }) row
          (subst Sound c.self.view_is c.self.invariant.sound)),
      row ∙ ap (λ (p : Policy). Ok (record p { sessions = left })) (sym c.self.view_is),
    )

pub invariant_of-self-2 : goal.invariant_of-self-2
invariant_of-self-2 c = record {
  sound = (accepted (goal.at.invariant_of-self-2 c).In_ok-insert).0;
  authorized = c.self.invariant.authorized;
  acting = c.in_ok-insert.ensures.acting c.self.inside.permissions.roles c.self.invariant.acting
      (subst (λ (q : Policy). IsBelow q.roles c.in_ok-active.active.session.active
      c.in_ok-active.active.acting)
      (sym c.self.view_is) c.in_ok-active.ensures.acting);
  placed = c.self.invariant.placed;
}

pub without_active_role-requires : goal.without_active_role-requires
without_active_role-requires c = active-session c.args.self.now c.args.connection c.args.role.now
    (sym c.is_active.ensures ∙ c.if-not-is_active.false)

pub returns-clause-ok : goal.returns-clause-ok
returns-clause-ok c = (accepted (goal.at.returns-clause-ok c).In_ok-insert).1
