-- Each turn adds one user, by the mask.
use Rattle.std.proofs.Common.{◌≡◌, ◌∙◌, ℕ, ◌+◌, ◌<◌, ◌≤◌, sym, ap, subst, take, List, [], ◌∷◌, length, get_or, refl, arith}
use Rattle.std.specs.Option.{option_copied}
use Rattle.mpw_geom.specs.Least.{lesser, IsLeast}
use Rattle.mpw_roles.specs.Mask.{has}
use Rattle.mpw_roles.specs.Places.{is_place_below, mask_at}
use Rattle.mpw_roles.specs.declared.mask.Mask.{Mask}
use Rattle.mpw_roles.proofs.PositionLemmas.{item-there}
use Rattle.mpw_separation.specs.Placed.{IsBelow}
use Rattle.mpw_separation.specs.Separation.{broken_names, least_broken}
use Rattle.mpw_rbac.specs.Policy.{assigned_lists}
use Rattle.mpw_rbac.specs.declared.session.User.{User}
use Rattle.mpw_rbac.proofs.HolderLemmas.{least-entry, least-all, least-nobody}
use Rattle.mpw_rbac.proofs.MaskedLemmas.{assigned-length, roles-at}
use Rattle.mpw_rbac.proofs.separation.least_static.Goals as goal

pub loop-authorized-init : goal.loop-authorized-init
loop-authorized-init c = least-nobody c.args.roles.now c.args.sets.now.sets.ssd

pub loop-authorized-preserved : goal.loop-authorized-preserved
loop-authorized-preserved c =
    let h = c.args.roles.now in
    let sets = c.args.sets.now.sets.ssd in
    let us = c.args.users.now.users in
    let i = c.loop-authorized.authorized-index in
    let nobody : List ℕ × User = ([], record { digest = []; roles = [] }) in
    let e : List ℕ × User = get_or us i nobody in
    let lists = assigned_lists us in
    let long = c.requires.authorized.long in
    let read = ap length c.masks-authorized-items.ensures in
    let size = assigned-length us in
    let inside : i < length lists = omega (arith, long, read, c.loop-authorized-test.true) in
    let at = item-there us i e nobody (omega (arith, inside, size)) refl in
    let below : IsBelow h e.1.roles (mask_at c.masks-authorized-items.result.now i) =
    λ q. ap (λ (ms : List Mask). has (mask_at ms i) q) c.masks-authorized-items.ensures
    ∙ c.requires.authorized.exact i inside q
    ∙ ap (λ l. is_place_below h l q) (roles-at us i e at) in
    let least = option_copied c.loop-authorized.least in
    let next : option_copied c.lesser-least.result
    ≡ lesser least (least_broken h sets (e.1.roles ∷ [])) = c.lesser-least.ensures
    ∙ ap (lesser least) (c.first_broken-broken.ensures h e.1.roles c.is_hierarchy.ensures
    c.requires.placed below) in
    subst (IsLeast (broken_names h sets (assigned_lists (take (i + 1) us)))) (sym next)
    (least-entry (λ (entry : List ℕ × User). entry.1.roles) h sets us i e least at
    c.loop-authorized.invariant)

pub returns : goal.returns
returns c =
    let us = c.args.users.now.users in
    let long = c.requires.authorized.long in
    let read = ap length c.masks-authorized-items.ensures in
    let size = assigned-length us in
    let end : length us ≤ c.loop-authorized.authorized-index =
    omega (arith, long, read, size, c.loop-authorized-test.false) in
    least-all (λ (entry : List ℕ × User). entry.1.roles) c.args.roles.now c.args.sets.now.sets.ssd
    us c.loop-authorized.authorized-index (option_copied c.loop-authorized.least) end
    c.loop-authorized.invariant
