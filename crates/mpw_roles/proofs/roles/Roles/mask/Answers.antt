-- The mask at the index of the role.
use Rattle.std.proofs.Common.{◌∙◌, sym, ap, arith}
use Rattle.mpw_roles.specs.Mask.{has}
use Rattle.mpw_roles.specs.Places.{is_place_under}
use Rattle.mpw_roles.proofs.PlacesLemmas.{mask-found, mask-there}
use Rattle.mpw_roles.proofs.BitLemmas.{mask-none}
use Rattle.mpw_roles.proofs.roles.Roles.mask.Goals as goal

pub returns-in-Some : goal.returns-in-Some
returns-in-Some c = λ q.
    let h = c.self.inside.table in
    let ms = c.self.inside.masks.items in
    ap (λ m. has m q) (c.index.ensures ∙ mask-there ms c.in-Some.place c.index.result.now
    (let long = c.self.invariant.masked.long in let inside = c.in-Some.ensures.within in
    omega arith))
    ∙ mask-found h ms c.self.invariant.masked c.args.role.now c.in-Some.place
    c.in-Some.ensures.place q
    ∙ ap (λ k. is_place_under k c.args.role.now q) c.self.view_is

pub returns-in-None : goal.returns-in-None
returns-in-None c = λ q.
    let h = c.self.inside.table in
    c.new.ensures q
    ∙ mask-none h c.args.role.now q (sym c.in-None.ensures.found)
    ∙ ap (λ k. is_place_under k c.args.role.now q) c.self.view_is
