-- A session begins without active roles.
use Rattle.std.proofs.Common.{◌≡◌, ◌∙◌, sym, ap, subst, true, false, [], ◌∷◌, ◌++◌, ◌==◌, is_some}
use Rattle.mpw_rbac.specs.Policy.{Policy, session_of}
use Rattle.mpw_rbac.specs.Rows as rows
use Rattle.mpw_rbac.specs.Sound.{Sound}
use Rattle.mpw_rbac.specs.Table.{has_key, insert_entry}
use Rattle.mpw_rbac.proofs.RowLemmas.{open-ok, login-user}
use Rattle.mpw_rbac.proofs.KeepLemmas.{keep-open}
use Rattle.mpw_rbac.proofs.Shown.{shown}
use Rattle.mpw_rbac.proofs.TableLemmas.{insert-new, is_some-value_at}
use Rattle.mpw_rbac.specs.Masked.{IsBelow}
use Rattle.mpw_rbac.proofs.policy.Policy.open.Goals.{In_ok-insert}
use Rattle.mpw_rbac.proofs.policy.Policy.open.Goals as goal

-- what was tested of the policy that the fields show, and its sessions after that
opened : (c : In_ok-insert)
    → (rows.is_login (shown c.self.inside) c.args.user.now c.args.digest.now ≡ true)
    × (is_some (session_of (shown c.self.inside) c.args.connection) ≡ false)
    × (c.insert.new.self.sessions
    ≡ insert_entry (λ a b. a == b) (shown c.self.inside).sessions c.args.connection
    (record { user = c.args.user.now; active = [] }))
opened c = (
  ap (λ (q : Policy). rows.is_login q c.args.user.now c.args.digest.now) c.self.view_is
      ∙ sym c.is_login.ensures ∙ c.if-not-is_login.false,
  ap (λ (q : Policy). is_some (session_of q c.args.connection)) c.self.view_is
      ∙ sym c.has_session.ensures ∙ c.if-has_session.false,
  c.in_ok-insert.ensures.ok
      ∙ ap (insert_entry (λ a b. a == b) (shown c.self.inside).sessions c.args.connection)
      c.new-active.ensures.session
      ∙ (λ i. insert_entry (λ a b. a == b) (shown c.self.inside).sessions c.args.connection
      (record { user = c.in_ok-copy.ensures i; active = c.new.ensures i })),
)

pub invariant_of-self-2 : goal.invariant_of-self-2
invariant_of-self-2 c =
    let p = shown c.self.inside in
    let user = c.args.user.now in
    let o = opened (goal.at.invariant_of-self-2 c).In_ok-insert in
    let new : has_key (λ a b. a == b) p.sessions c.args.connection ≡ false =
    sym (is_some-value_at (λ a b. a == b) p.sessions c.args.connection) ∙ o.1 in
    let is : c.insert.new.self.sessions ≡ p.sessions
    ++ (c.args.connection, record { user = user; active = [] }) ∷ [] =
    o.2 ∙ insert-new (λ a b. a == b) p.sessions c.args.connection _ new in
    record {
      sound = subst (λ s. Sound (record p { sessions = s })) (sym is)
          (keep-open p c.args.connection user (login-user p user c.args.digest.now o.0)
          c.self.invariant.sound);
      authorized = c.self.invariant.authorized;
      acting = c.in_ok-insert.ensures.acting c.self.inside.permissions.roles
          c.self.invariant.acting
          (subst (λ h. IsBelow h c.new-active.result.session.active c.new-active.result.acting)
          c.roles.ensures c.new-active.ensures.acting);
      placed = c.self.invariant.placed;
    }

pub returns-clause-ok : goal.returns-clause-ok
returns-clause-ok c =
    let o = opened (goal.at.returns-clause-ok c).In_ok-insert in
    rw (← c.self.view_is) (open-ok (shown c.self.inside) c.args.connection c.args.user.now
    c.args.digest.now c.insert.new.self.sessions o.1 o.0 o.2)
