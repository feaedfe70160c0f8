-- The sets' masks are right in the other hierarchy too, and the first broken set in alphabetical
-- order is returned.
use Rattle.std.proofs.Common.{◌≡◌, ◌∙◌, ℕ, List, sym, ap, subst, Err}
use Rattle.mpw_roles.specs.Hierarchy.{role_names}
use Rattle.mpw_separation.specs.Placed.{AreSetsPlaced}
use Rattle.mpw_separation.specs.Separation.{least_broken}
use Rattle.mpw_rbac.specs.Masked.{sessions_in}
use Rattle.mpw_rbac.specs.Policy.{Policy, active_lists, assigned_lists}
use Rattle.mpw_rbac.specs.declared.refusal.Refusal.TheVariants.{Ssd, Dsd}
use Rattle.mpw_rbac.specs.declared.session.Session.{Session}
use Rattle.mpw_rbac.proofs.InheritLemmas.{holding-static, holding-dynamic}
use Rattle.mpw_rbac.proofs.policy.Policy.holds_among.Goals.{After-least_static, After-least_dynamic}
use Rattle.mpw_rbac.proofs.policy.Policy.holds_among.Goals as goal

pub least_static-requires-clause-placed : goal.least_static-requires-clause-placed
least_static-requires-clause-placed c =
    subst (λ names. AreSetsPlaced names c.self.inside.sets)
    (sym (c.requires.roles ∙ ap (λ (p : Policy). role_names p.roles) (sym c.self.view_is)))
    c.self.invariant.placed

pub least_static-requires-clause-authorized : goal.least_static-requires-clause-authorized
least_static-requires-clause-authorized c = c.requires.users.masks

pub least_dynamic-requires : goal.least_dynamic-requires
least_dynamic-requires c =
    subst (λ names. AreSetsPlaced names c.self.inside.sets)
    (sym (c.requires.roles ∙ ap (λ (p : Policy). role_names p.roles) (sym c.self.view_is)))
    c.self.invariant.placed

-- the lists that the sets test
asked : (c : After-least_static)
    → least_broken c.args.roles.now c.self.inside.sets.sets.ssd
    (assigned_lists c.args.users.now.users)
    ≡ least_broken c.args.roles.now c.args.self.now.ssd (assigned_lists c.args.self.now.users)
asked c = λ i. least_broken c.args.roles.now (c.self.view_is i).ssd
    (assigned_lists (c.requires.users.same i))

asked_too : (c : After-least_dynamic)
    → least_broken c.args.roles.now c.self.inside.sets.sets.dsd
    (active_lists (sessions_in c.table.result.now))
    ≡ least_broken c.args.roles.now c.args.self.now.dsd (active_lists c.args.self.now.sessions)
asked_too c =
    ap (λ (s : List (ℕ × Session)). least_broken c.args.roles.now c.self.inside.sets.sets.dsd
    (active_lists s)) c.table.ensures.sessions
    ∙ (λ i. least_broken c.args.roles.now (c.self.view_is i).dsd
    (active_lists (c.self.view_is i).sessions))

pub returns-in-Some-clause-refused : goal.returns-in-Some-clause-refused
returns-in-Some-clause-refused c =
    let at = (goal.at.returns-in-Some-clause-refused c).After-least_static in
    holding-static c.args.self.now c.args.roles.now c.in-Some.name.now
    (sym (c.in-Some.ensures ∙ asked at))
    ∙ ap (λ n. Err (Ssd n)) (sym c.in_ok-copy.ensures)

pub returns-in-Some-least_dynamic-clause-refused :
    goal.returns-in-Some-least_dynamic-clause-refused
returns-in-Some-least_dynamic-clause-refused c =
    let first = (goal.at.returns-in-Some-least_dynamic-clause-refused c).After-least_static in
    let at = (goal.at.returns-in-Some-least_dynamic-clause-refused c).After-least_dynamic in
    holding-dynamic c.args.self.now c.args.roles.now c.in-Some-least_dynamic.name.now
    (sym (c.in_default.ensures ∙ asked first))
    (sym (c.in-Some-least_dynamic.ensures ∙ asked_too at))
    ∙ ap (λ n. Err (Dsd n)) (sym c.in_ok-copy-2.ensures)
