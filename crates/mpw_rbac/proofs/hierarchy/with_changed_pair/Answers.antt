-- Adding or removing a pair leaves the roles in their order.
use Rattle.std.proofs.Common.{◌∙◌, ap, inl}
use Rattle.mpw_roles.specs.Hierarchy.{role_names}
use Rattle.mpw_rbac.proofs.PlacedLemmas.{names-changed}
use Rattle.mpw_rbac.proofs.hierarchy.with_changed_pair.Goals as goal

pub with_roles-requires : goal.with_roles-requires
with_roles-requires c = inl (names-changed c.args.change c.in_ok-roles.roles c.args.senior.now
    c.args.junior.now c.change_pair.new.roles c.in_ok-change_pair.ensures.ok
    ∙ ap role_names (c.in_ok-roles.ensures ∙ c.roles.ensures))
