-- The roles are in the values.
use Rattle.std.proofs.Common.{◌∙◌, sym, ap, map}
use Rattle.mpw_rbac.specs.declared.session.User.{User}
use Rattle.mpw_rbac.proofs.RosterLemmas.{zip-roles}
use Rattle.mpw_rbac.proofs.roster.Roster.values.Goals as goal

pub returns : goal.returns
returns c = rw (← c.self.view_is)
    (zip-roles c.self.inside.names c.self.inside.values.items c.self.invariant
    ∙ ap (map (λ (user : User). user.roles)) (sym c.as_slice.ensures.value))
