-- The user is removed from both lists.
use Rattle.std.proofs.Common.{◌≡◌, ◌∙◌, sym, ap, subst, is_some, List, length}
use Rattle.std.specs.Prelude.{IfOk, remove, zip}
use Rattle.mpw_geom.specs.Names.{name_eq}
use Rattle.mpw_roles.specs.Hierarchy.{Name}
use Rattle.mpw_roles.proofs.PositionLemmas.{position-any}
use Rattle.mpw_rbac.specs.Table.{without_key}
use Rattle.mpw_rbac.specs.declared.session.User.{User}
use Rattle.mpw_rbac.proofs.RosterLemmas.{absent-users, users-fewer}
use Rattle.mpw_rbac.proofs.roster.Roster.without.Goals.{In_ok-values}
use Rattle.mpw_rbac.proofs.roster.Roster.without.Goals as goal

pub returns-in_default : goal.returns-in_default
returns-in_default c =
    let ns = c.self.inside.names in
    let user = c.args.user.now in
    let none = sym (ap is_some c.in_default.ensures.number ∙ position-any (name_eq user) ns) in
    let same = subst (λ (es : List (Name × User)). es ≡ without_key name_eq es user)
    c.self.view_is (sym (absent-users ns c.self.inside.values.items user none)) in
    subst (λ (es : List (Name × User)). IfOk c.copy.result (λ roster. roster ≡ es)) same
    c.copy.ensures

-- the names and the users that are left
left : (c : In_ok-values) → (length c.in_ok-names.names ≡ length c.in_ok-values.values.items)
    × (zip c.in_ok-names.names c.in_ok-values.values.items
    ≡ without_key name_eq (zip c.self.inside.names c.self.inside.values.items) c.args.user.now)
left c =
    let user = c.args.user.now in
    let i = c.in-Some.place in
    let names = c.in_ok-names.ensures in
    let values = c.in_ok-values.ensures ∙ ap (λ (l : List User). remove l i) c.deref.ensures.value in
    let fewer = users-fewer c.self.inside.names c.self.inside.values.items user i c.self.invariant
    c.number.ensures.once c.in-Some.ensures.number in (
      ap length names ∙ fewer.1 ∙ sym (ap length values),
      (λ t. zip (names t) (values t)) ∙ fewer.0,
    )

pub invariant_of-result : goal.invariant_of-result
invariant_of-result c = (left (goal.at.invariant_of-result c).In_ok-values).0

pub returns : goal.returns
returns c = rw (← c.self.view_is) (left (goal.at.returns c).In_ok-values).1
