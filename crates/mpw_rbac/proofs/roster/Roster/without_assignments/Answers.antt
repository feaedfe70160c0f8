-- Each user stays, without the role.
use Rattle.std.proofs.Common.{◌∙◌, ap, map}
use Rattle.std.specs.Prelude.{zip}
use Rattle.mpw_geom.specs.Names.{without_name}
use Rattle.mpw_rbac.specs.declared.session.User.{User}
use Rattle.mpw_rbac.proofs.RosterLemmas.{zip-mapped}
use Rattle.mpw_rbac.proofs.roster.Roster.without_assignments.Goals as goal

pub returns : goal.returns
returns c =
    let left = λ (u : User). record u { roles = without_name u.roles c.args.role.now } in
    rw (← c.self.view_is) ((λ i. zip (c.in_ok-names.ensures i)
    ((c.in_ok-values.ensures ∙ ap (map left) c.deref.ensures.value) i))
    ∙ zip-mapped left c.self.inside.names c.self.inside.values.items)
