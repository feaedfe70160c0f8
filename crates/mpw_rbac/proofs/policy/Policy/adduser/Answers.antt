-- A new user is added at the end, without roles.
use Rattle.std.proofs.Common.{◌≡◌, ◌∙◌, sym, ap, subst, true, false, [], ◌∷◌, ◌++◌, length}
use Rattle.std.specs.Prelude.{nat_lt}
use Rattle.std.proofs.lemmas.Result.{err_from_is_err_and}
use Rattle.mpw_rbac.specs.Table.{insert_entry}
use Rattle.mpw_geom.specs.Names.{name_eq}
use Rattle.mpw_rbac.specs.Policy.{Policy, policy_of, is_user}
use Rattle.mpw_rbac.specs.Sound.{Sound}
use Rattle.mpw_rbac.proofs.RowFacts.{adduser-ok}
use Rattle.mpw_rbac.proofs.KeepLemmas.{keep-adduser}
use Rattle.mpw_rbac.proofs.TableLemmas.{insert-new}
use Rattle.mpw_rbac.specs.Masked.{AreAuthorized}
use Rattle.mpw_rbac.proofs.policy.Policy.adduser.Goals as goal

pub invariant_of-self : goal.invariant_of-self
invariant_of-self c =
    let in' = c.self.inside in
    let p = policy_of in'.users.users in'.permissions.roles in'.permissions.granted in'.sets.sets
    in'.sessions.sessions in
    let user = c.args.user in
    let new : is_user p user ≡ false = ap (λ (q : Policy). is_user q user) c.self.view_is
    ∙ c.in_ok-may_add_user.ensures.new in
    let is : c.in_ok-users.users.users ≡ p.users
    ++ (user, record { digest = c.args.digest; roles = [] }) ∷ [] =
    c.in_ok-users.ensures.same ∙ ap (λ rs. insert_entry name_eq p.users user
    (record { digest = c.args.digest; roles = rs })) c.new-roles.ensures
    ∙ insert-new name_eq p.users user _ new in
    record {
      sound = subst (λ us. Sound (record p { users = us })) (sym is)
          (keep-adduser p user c.args.digest c.self.invariant.sound);
      authorized = subst (λ h. AreAuthorized h c.in_ok-users.users) c.roles.ensures
          c.in_ok-users.ensures.masks;
      acting = c.self.invariant.acting;
      placed = c.self.invariant.placed;
    }

pub returns-clause-ok : goal.returns-clause-ok
returns-clause-ok c =
    let in' = c.self.inside in
    let p = policy_of in'.users.users in'.permissions.roles in'.permissions.granted in'.sets.sets
    in'.sessions.sessions in
    let user = c.args.user in
    let new : is_user p user ≡ false = ap (λ (q : Policy). is_user q user) c.self.view_is
    ∙ c.in_ok-may_add_user.ensures.new in
    let room : nat_lt (length p.users) 512 ≡ true = ap (λ (q : Policy). nat_lt (length q.users) 512)
    c.self.view_is ∙ c.in_ok-may_add_user.ensures.room in
    let is : c.in_ok-users.users.users ≡ insert_entry name_eq p.users user
    (record { digest = c.args.digest; roles = [] }) =
    c.in_ok-users.ensures.same ∙ ap (λ rs. insert_entry name_eq p.users user
    (record { digest = c.args.digest; roles = rs })) c.new-roles.ensures in
    rw (← c.self.view_is)
    (adduser-ok p user c.args.digest c.in_ok-users.users.users new room is)

pub with-requires : goal.with-requires
with-requires c = subst (λ h. AreAuthorized h c.self.inside.users) (sym c.roles.ensures)
    c.self.invariant.authorized

pub returns-in_err-may_add_user-clause-refused : goal.returns-in_err-may_add_user-clause-refused
returns-in_err-may_add_user-clause-refused c =
    let told = err_from_is_err_and c.from_residual.result c.from_residual.ensures.1 in
    rw (told.1, told.2) (c.in_err-may_add_user.ensures.refused c.args.digest)
