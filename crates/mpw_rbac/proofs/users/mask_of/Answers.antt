-- The mask at the index of the user.
use Rattle.std.proofs.Common.{◌∙◌, sym, ap, map, [], Option, arith}
use Rattle.std.specs.Option.{option_map_or}
use Rattle.std.proofs.lemmas.List.Quantifiers.{position-Some}
use Rattle.mpw_geom.specs.Names.{name_eq}
use Rattle.mpw_roles.specs.Hierarchy.{Name}
use Rattle.mpw_roles.specs.Mask.{has}
use Rattle.mpw_roles.specs.Places.{is_place_below}
use Rattle.mpw_roles.proofs.PlacesLemmas.{mask-there}
use Rattle.mpw_rbac.specs.declared.session.User.{User}
use Rattle.mpw_rbac.proofs.MaskedLemmas.{assigned-length, names-length, none-below, roles-first}
use Rattle.mpw_rbac.proofs.RosterLemmas.{value-nowhere}
use Rattle.mpw_rbac.proofs.users.mask_of.Goals as goal

pub returns-in-Some : goal.returns-in-Some
returns-in-Some c = λ h right place.
    let us = c.args.roster.now in
    let ms = c.args.masks.now.items in
    let user = c.args.user.now in
    let i = c.in-Some.place in
    let found = position-Some (name_eq user) (map (λ (e : Name × User). e.0) us) i []
    (sym c.in-Some.ensures.place) in
    let inside = found.0 in
    let long = right.long in
    let lists = assigned-length us in
    let names = names-length us in
    ap (λ m. has m place) (c.index.ensures ∙ mask-there ms i c.index.result.now (omega arith))
    ∙ right.exact i (omega arith) place
    ∙ ap (λ l. is_place_below h l place) (roles-first h us user i (omega arith) found.1 found.2)

pub returns-in-None : goal.returns-in-None
returns-in-None c = λ h right place.
    c.new.ensures place ∙ none-below h place
    ∙ ap (λ (o : Option User). is_place_below h (option_map_or (λ (u : User). u.roles) o []) place)
    (value-nowhere c.args.roster.now c.args.user.now c.in-None.ensures.place)
