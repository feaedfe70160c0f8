-- Each turn tests one holder, by its mask.
use Rattle.std.proofs.Common.{◌≡◌, ◌∙◌, ◌<◌, sym, ap, List, [], length, get_or, arith}
use Rattle.mpw_roles.specs.Hierarchy.{role_names}
use Rattle.mpw_roles.specs.Mask.{has}
use Rattle.mpw_roles.specs.Places.{is_place_of, mask_at}
use Rattle.mpw_roles.specs.declared.mask.Mask.{Mask}
use Rattle.mpw_separation.specs.Placed.{IsBelow, IsPlaced}
use Rattle.mpw_separation.specs.Separation.{breaks}
use Rattle.mpw_rbac.specs.Policy.{assigned_lists}
use Rattle.mpw_rbac.proofs.PlacedLemmas.{unbroken-list, broken-list}
use Rattle.mpw_rbac.proofs.separation.breaks_a_user.Goals.{After-is_broken_at}
use Rattle.mpw_rbac.proofs.separation.breaks_a_user.Goals as goal

-- the index is that of a user, and the call has tested that user
asked : (c : After-is_broken_at)
    → (c.loop-authorized.authorized-index < length (assigned_lists c.args.users.now.users))
    × (c.is_broken_at.result ≡ breaks c.args.roles.now (get_or
    (assigned_lists c.args.users.now.users) c.loop-authorized.authorized-index [])
    c.args.set.now)
asked c =
    let h = c.args.roles.now in
    let set = c.args.set.now in
    let lists = assigned_lists c.args.users.now.users in
    let i = c.loop-authorized.authorized-index in
    let long = c.requires.long in
    let read = ap length c.masks-authorized-items.ensures in
    let inside : i < length lists = omega (arith, long, read, c.loop-authorized-test.true) in
    let own : IsPlaced (role_names h) set.roles c.places-own.result =
    λ q. c.places-own.ensures q ∙ ap (λ l. is_place_of (role_names h) l q) c.roles.ensures.roles in
    let below : IsBelow h (get_or lists i []) (mask_at c.masks-authorized-items.result.now i) =
    λ q. ap (λ (ms : List Mask). has (mask_at ms i) q) c.masks-authorized-items.ensures
    ∙ c.requires.exact i inside q in
    (inside, c.is_broken_at.ensures h (get_or lists i []) c.is_hierarchy.ensures own below)

pub returns-then-is_broken_at : goal.returns-then-is_broken_at
returns-then-is_broken_at c =
    let a = asked (goal.at.returns-then-is_broken_at c).After-is_broken_at in
    sym (broken-list c.args.roles.now c.args.set.now (assigned_lists c.args.users.now.users)
    c.loop-authorized.authorized-index a.0 (sym a.1 ∙ c.if-is_broken_at.true))

pub loop-authorized-preserved : goal.loop-authorized-preserved
loop-authorized-preserved c =
    let a = asked (goal.at.loop-authorized-preserved c).After-is_broken_at in
    unbroken-list c.args.roles.now c.args.set.now (assigned_lists c.args.users.now.users)
    c.loop-authorized.authorized-index a.0 c.loop-authorized.invariant
    (sym a.1 ∙ c.if-is_broken_at.false)
