-- The mask of the user is put among the others.
use Rattle.std.proofs.Common.{◌≡◌, ◌∙◌, sym, ap, subst, List, [], ◌∷◌, ◌++◌, map}
use Rattle.std.specs.Prelude.{position, slice_set}
use Rattle.std.specs.Option.{option_map_or}
use Rattle.mpw_rbac.specs.Table.{insert_entry}
use Rattle.mpw_geom.specs.Names.{name_eq}
use Rattle.mpw_roles.specs.Hierarchy.{Name}
use Rattle.mpw_roles.specs.Places.{is_place_below}
use Rattle.mpw_roles.specs.declared.mask.Mask.{Mask}
use Rattle.mpw_rbac.specs.Masked.{AreAuthorized, AreBelow, IsBelow, KeptUsers}
use Rattle.mpw_rbac.specs.Policy.{assigned_lists}
use Rattle.mpw_rbac.specs.declared.session.User.{User}
use Rattle.mpw_rbac.proofs.MaskedLemmas.{masks-put}
use Rattle.mpw_rbac.proofs.RosterLemmas.{key_of}
use Rattle.mpw_rbac.proofs.users.Users.with.Goals as goal

pub with_masks-requires : goal.with_masks-requires
with_masks-requires c =
    let h = c.args.roles.now in
    let user = c.args.user.now in
    let value = c.args.value in
    let mask = c.mask_below-mask.result in
    let us = c.self.inside.roster.value in
    let ms = c.self.inside.masks.value.items in
    let is : AreBelow h (assigned_lists us) ms =
    subst (λ (kept : KeptUsers). AreAuthorized h kept) (sym c.self.view_is) c.requires in
    let here : IsBelow h value.roles mask = λ q. c.mask_below-mask.ensures q
    ∙ ap (λ l. is_place_below h l q) c.as_slice.ensures in
    let roster = c.in_ok-roster.ensures
    ∙ ap (λ es. insert_entry name_eq es user value) c.deref-2.ensures in
    let place = c.place-place.ensures.place
    ∙ ap (λ es. position (name_eq user) (map key_of es)) c.deref.ensures in
    let read = c.deref-4.ensures.value ∙ (λ t. (c.deref-3.ensures t).items) in
    let masks : c.in_ok-masks.masks.items
    ≡ option_map_or (λ k. slice_set ms k mask) (position (name_eq user) (map key_of us))
    (ms ++ mask ∷ []) = c.in_ok-masks.ensures
    ∙ (λ t. option_map_or (λ k. slice_set (read t) k mask) (place t) (read t ++ mask ∷ [])) in
    subst (λ (l : List Mask). AreBelow h (assigned_lists c.in_ok-roster.roster.value) l) (sym masks)
    (subst (λ (es : List (Name × User)). AreBelow h (assigned_lists es)
    (option_map_or (λ k. slice_set ms k mask) (position (name_eq user) (map key_of us))
    (ms ++ mask ∷ []))) (sym roster) (masks-put h us ms user value mask is here))
