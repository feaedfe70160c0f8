-- Each turn adds the mask of one user.
use Rattle.std.proofs.Common.{◌≡◌, ◌∙◌, ◌+◌, sym, ap, subst, List, [], ◌∷◌, ◌++◌, take, map, arith}
use Rattle.std.proofs.lemmas.List.{map_more, take_all}
use Rattle.mpw_roles.specs.Hierarchy.{Name}
use Rattle.mpw_roles.specs.Places.{is_place_below}
use Rattle.mpw_rbac.specs.Masked.{AreBelow, IsBelow}
use Rattle.mpw_rbac.specs.declared.session.User.{User}
use Rattle.mpw_rbac.proofs.MaskedLemmas.{below-last}
use Rattle.mpw_rbac.proofs.users.masks_of.Goals as goal

abbrev roles_of : User → List Name
roles_of user = user.roles

pub loop-user-preserved : goal.loop-user-preserved
loop-user-preserved c =
    let h = c.args.roles.now in
    let us = c.args.users.now in
    let i = c.loop-user.user-index in
    let user = c.user-item.result in
    let mask = c.mask_below.result in
    let so_far = map roles_of (take i us) in
    let here : IsBelow h user.roles mask = λ q. c.mask_below.ensures q
    ∙ ap (λ l. is_place_below h l q) (c.as_slice.ensures ∙ ap roles_of c.get.ensures) in
    let next : so_far ++ user.roles ∷ [] ≡ map roles_of (take (i + 1) us) =
    ap (λ (u : User). so_far ++ u.roles ∷ []) c.user-item.is
    ∙ sym (map_more roles_of us i user c.loop-user-test.true) in
    subst (AreBelow h (map roles_of (take (i + 1) us))) (sym c.in_ok-push.ensures.items)
    (subst (λ ls. AreBelow h ls (c.loop-user.masks.items ++ mask ∷ [])) next
    (below-last h so_far c.loop-user.masks.items user.roles mask c.loop-user.invariant here))

pub returns : goal.returns
returns c =
    subst (λ us. AreBelow c.args.roles.now (map roles_of us) c.loop-user.masks.items)
    (take_all c.loop-user.user-index c.args.users.now (omega arith)) c.loop-user.invariant
