-- The names that stay are those below the user's assigned roles.
use Rattle.std.proofs.Common.{◌∙◌, ap, filter}
use Rattle.mpw_geom.specs.Names.{name_eq, contains_name}
use Rattle.mpw_rbac.specs.Policy.{assigned_roles}
use Rattle.mpw_rbac.specs.Internal.Policy.{users_and_roles}
use Rattle.mpw_rbac.specs.Table.{has_key}
use Rattle.mpw_rbac.proofs.trim.keep.Goals as goal

pub returns-clause-user : goal.returns-clause-user
returns-clause-user c = c.contains.ensures
    ∙ ap (λ us. has_key name_eq us c.args.session.now.user) c.roster.ensures

pub returns-clause-kept : goal.returns-clause-kept
returns-clause-kept c = λ right.
    let h = c.args.roles.now in
    let session = c.args.session.now in
    let roles = assigned_roles (users_and_roles c.args.users.now.users h) session.user in
    let below = c.at_places-below.ensures roles (c.authorized_places.ensures h right) in
    ap (λ l. record session { active = l })
    (c.keep_below.ensures ∙ ap (λ l. filter (contains_name l) session.active) below)
