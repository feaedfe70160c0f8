-- The masks of the operation say whether the role has the grant.
use Rattle.std.proofs.Common.{◌≡◌, ◌∙◌, sym, ap, [], ◌<◌, length, get_or, arith}
use Rattle.std.specs.List.{list_any}
use Rattle.mpw_roles.specs.Hierarchy.{Hierarchy, role_names}
use Rattle.std.specs.Prelude.{Some, position}
use Rattle.mpw_geom.specs.Names.{name_eq}
use Rattle.mpw_permissions.specs.Grant.{grant_eq}
use Rattle.mpw_permissions.specs.Internal.Holders.{holds}
use Rattle.mpw_permissions.specs.Permissions.{Permissions}
use Rattle.mpw_permissions.proofs.GrantedLemmas.{granted-bit, unplaced}
use Rattle.mpw_permissions.proofs.HeldLemmas.{there}
use Rattle.mpw_permissions.proofs.NamedLemmas.{none-granted}
use Rattle.mpw_permissions.proofs.permissions.Permissions.has_grant.Goals as goal

pub returns-in_default : goal.returns-in_default
returns-in_default c =
    let in' = c.self.inside in
    let names = role_names in'.roles.value in
    let g = c.args.grant.now in
    let none = unplaced names g.role (c.in_default.ensures.place
    ∙ ap (λ (h : Hierarchy). position (name_eq g.role) (role_names h)) c.deref.ensures) in
    sym (none-granted names in'.granted g none c.self.invariant.1)
    ∙ ap (λ (p : Permissions). list_any (grant_eq g) p.granted) c.self.view_is

pub returns : goal.returns
returns c =
    let in' = c.self.inside in
    let names = role_names in'.roles.value in
    let tables = in'.holders.value.items in
    let k = c.index-operation.result in
    let g = c.args.grant.now in
    let i = c.in-Some.place in
    let within : k < length tables = let all = c.self.invariant.0.all in let small =
    c.index-operation.ensures.within in omega arith in
    let table : c.index.result.now ≡ get_or tables k [] = c.index.ensures
    ∙ ap (λ t. get_or t.items k c.index.result.now) c.deref-2.ensures
    ∙ there tables k c.index.result.now [] within in
    let found : Some i ≡ position (name_eq g.role) names = c.in-Some.ensures.place
    ∙ ap (λ (h : Hierarchy). position (name_eq g.role) (role_names h)) c.deref.ensures in
    c.contains.ensures
    ∙ c.places_of.ensures i
    ∙ ap (λ t. holds t g.object i) table
    ∙ (c.self.invariant.0.exact k c.index-operation.ensures.within).exact g.object i
    ∙ granted-bit names in'.granted g k i c.index-operation.ensures.index found
    ∙ ap (λ (p : Permissions). list_any (grant_eq g) p.granted) c.self.view_is
