-- The masks have a common index if a grant is to a role at or below the seniors.
use Rattle.std.proofs.Common.{◌≡◌, ◌∙◌, sym, ap, [], ◌<◌, ℕ, length, get_or, arith}
use Rattle.std.specs.List.{list_any}
use Rattle.mpw_roles.specs.Hierarchy.{role_names}
use Rattle.mpw_roles.specs.Mask.{has}
use Rattle.mpw_roles.specs.Order.{roles_below}
use Rattle.mpw_roles.specs.Places.{is_place_below}
use Rattle.mpw_permissions.specs.Grant.{operation_index, is_granted_to}
use Rattle.mpw_permissions.specs.Internal.Holders.{holds, is_place_granted}
use Rattle.mpw_permissions.specs.Permissions.{Permissions}
use Rattle.mpw_permissions.proofs.GrantedLemmas.{meets-granted}
use Rattle.mpw_permissions.proofs.HeldLemmas.{there}
use Rattle.mpw_permissions.proofs.permissions.Permissions.is_granted_to.Goals as goal

pub returns : goal.returns
returns c = λ seniors acts.
    let in' = c.self.inside in
    let h = in'.roles.value in
    let granted = in'.granted in
    let tables = in'.holders.value.items in
    let k = c.index-place.result in
    let op = c.args.operation in
    let object = c.args.object.now in
    let within : k < length tables = let all = c.self.invariant.0.all in let small =
    c.index-place.ensures.within in omega arith in
    let table : c.index.result.now ≡ get_or tables k [] = c.index.ensures
    ∙ ap (λ t. get_or t.items k c.index.result.now) c.deref.ensures
    ∙ there tables k c.index.result.now [] within in
    let holding : (q : ℕ) → has c.places_of.result q ≡ is_place_granted (role_names h) granted
    (operation_index op) object q = λ q.
    c.places_of.ensures q
    ∙ ap (λ t. holds t object q) table
    ∙ (c.self.invariant.0.exact k c.index-place.ensures.within).exact object q
    ∙ ap (λ i. is_place_granted (role_names h) granted i object q) c.index-place.ensures.index in
    meets-granted h granted seniors op object c.args.roles.now c.places_of.result c.meets.result
    (λ q. acts q ∙ ap (λ (p : Permissions). is_place_below p.roles seniors q) (sym c.self.view_is))
    holding c.meets.ensures.some c.meets.ensures.none
    ∙ ap (λ (p : Permissions). list_any (is_granted_to (roles_below p.roles seniors) op object)
    p.granted) c.self.view_is
