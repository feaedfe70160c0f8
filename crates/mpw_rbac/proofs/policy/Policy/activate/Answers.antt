-- An authorized role becomes active if no set is broken.
use Rattle.std.proofs.Common.{◌≡◌, ◌∙◌, sym, ap, subst, true, false, Ok, Err, [], ◌∷◌, ◌++◌, ◌==◌}
use Rattle.mpw_rbac.specs.Table.{insert_entry}
use Rattle.mpw_geom.specs.Names.{contains_name}
use Rattle.mpw_separation.specs.Separation.{least_broken}
use Rattle.mpw_rbac.specs.Policy.{Policy, active_lists, authorized}
use Rattle.mpw_rbac.specs.Rows as rows
use Rattle.mpw_rbac.specs.Sound.{Sound}
use Rattle.mpw_rbac.specs.declared.refusal.Refusal.TheVariants.{Dsd}
use Rattle.mpw_rbac.specs.declared.session.Session.{Session}
use Rattle.mpw_rbac.proofs.LawLemmas.{sound-activate_row}
use Rattle.mpw_rbac.proofs.RowLemmas.{activate-ok, activate-broken}
use Rattle.mpw_rbac.proofs.RowFacts.{activate-same}
use Rattle.mpw_rbac.proofs.Shown.{shown}
use Rattle.mpw_rbac.specs.Masked.{IsBelow}
use Rattle.mpw_rbac.proofs.policy.Policy.activate.Goals.{After-broken_by_active, In_ok-insert}
use Rattle.mpw_rbac.proofs.policy.Policy.activate.Goals as goal

-- the tests before that of the sets, and the session that it tests
tested : (c : After-broken_by_active)
    → (contains_name (authorized c.args.self.now (rows.user_of c.args.self.now c.args.connection))
    c.args.role.now ≡ true)
    × (contains_name (rows.active_roles c.args.self.now c.args.connection) c.args.role.now ≡ false)
    × (least_broken c.args.self.now.roles c.args.self.now.dsd
    (active_lists (rows.with_active c.args.self.now c.args.connection
    (rows.active_roles c.args.self.now c.args.connection ++ c.args.role.now ∷ [])).sessions)
    ≡ least_broken c.args.self.now.roles c.args.self.now.dsd
    (c.in_ok-active.active.session.active ∷ []))
tested c =
    let p = c.args.self.now in
    let asked = ap (λ (s : Session). s.active) c.in_ok-active.ensures.session in (
      c.in_ok-activation_begins.ensures.authorized,
      c.in_ok-activation_begins.ensures.new,
      activate-same p c.args.connection c.args.role.now
          (subst Sound c.self.view_is c.self.invariant.sound) c.requires.session
          ∙ ap (λ l. least_broken p.roles p.dsd (l ∷ [])) (sym asked),
    )

-- the decision table accepts, and the policy after it is sound
accepted : (c : In_ok-insert)
    → Sound (record (shown c.self.inside) { sessions = c.insert.new.self.sessions })
    × (rows.activate c.args.self.now c.args.connection c.args.role.now
    ≡ Ok (record (shown c.self.inside) { sessions = c.insert.new.self.sessions }))
accepted c =
    let q = c.args.self.now in
    let connection = c.args.connection in
    let role = c.args.role.now in
    let sessions = c.insert.new.self.sessions in
    let t = tested (goal.at.In_ok-insert c).After-broken_by_active in
    let is : sessions ≡ insert_entry (λ a b. a == b) q.sessions connection
    (record {
      user = rows.user_of q connection;
      active =
          rows.active_roles q connection ++ role ∷ [];
    }) =
    c.in_ok-insert.ensures.ok
    ∙ (λ i. insert_entry (λ a b. a == b) (c.self.view_is i).sessions connection
    (c.in_ok-active.ensures.session i)) in
    let row = activate-ok q connection role sessions c.requires.session t.0 t.1
    (t.2 ∙ sym (c.in_default.ensures c.in_ok-active.ensures.acting)) is in
    let sound = sound-activate_row connection role q (record q { sessions = sessions }) row
    (subst Sound c.self.view_is c.self.invariant.sound) in (
      subst (λ (p : Policy). Sound (record p { sessions = sessions })) (sym c.self.view_is) sound,
      row ∙ ap (λ (p : Policy). Ok (record p { sessions = sessions })) (sym c.self.view_is),
    )

pub returns-in-Some-clause-refused : goal.returns-in-Some-clause-refused
returns-in-Some-clause-refused c =
    let t = tested (goal.at.returns-in-Some-clause-refused c).After-broken_by_active in
    activate-broken c.args.self.now c.args.connection c.args.role.now c.in-Some.name.now t.0 t.1
    (t.2 ∙ sym (c.in-Some.ensures c.in_ok-active.ensures.acting))
    ∙ ap (λ n. Err (Dsd n)) (sym c.in_ok-copy.ensures)

pub invariant_of-self-2 : goal.invariant_of-self-2
invariant_of-self-2 c =
    let next = c.in_ok-active.active in
    record {
      sound = (accepted (goal.at.invariant_of-self-2 c).In_ok-insert).0;
      authorized = c.self.invariant.authorized;
      acting = c.in_ok-insert.ensures.acting c.self.inside.permissions.roles c.self.invariant.acting
          (subst (λ (q : Policy). IsBelow q.roles next.session.active next.acting)
          (sym c.self.view_is) c.in_ok-active.ensures.acting);
      placed = c.self.invariant.placed;
    }

pub returns-clause-ok : goal.returns-clause-ok
returns-clause-ok c = (accepted (goal.at.returns-clause-ok c).In_ok-insert).1
