-- Two indexes, and the bit of the mask at the one.
use Rattle.std.proofs.Common.{◌∙◌, sym, ap, arith, is_some}
use Rattle.mpw_roles.specs.Mask.{has}
use Rattle.mpw_roles.specs.Order.{at_least}
use Rattle.mpw_roles.proofs.PlacesLemmas.{mask-there}
use Rattle.mpw_roles.proofs.BitLemmas.{bit-at_least, stranger-above, stranger-below}
use Rattle.mpw_roles.proofs.roles.Roles.at_least.Goals as goal
use Rattle.mpw_roles.proofs.roles.Roles.at_least.Goals.{in_default-via-in-Some+in_default, in_default-via-in_default}

pub returns-in-Some-Some : goal.returns-in-Some-Some
returns-in-Some-Some c =
    let h = c.self.inside.table in
    let ms = c.self.inside.masks.items in
    c.contains.ensures
    ∙ ap (λ m. has m c.in-Some-Some.below)
    (c.index.ensures ∙ mask-there ms c.in-Some-Some.above c.index.result.now
    (let long = c.self.invariant.masked.long in let inside = c.in-Some-Some.ensures.within in
    omega arith))
    ∙ bit-at_least h ms c.self.invariant.masked c.args.senior.now c.args.junior.now
    c.in-Some-Some.above c.in-Some-Some.below c.in-Some-Some.ensures.place
    c.in-Some-Some.ensures'.place
    ∙ ap (λ k. at_least k c.args.senior.now c.args.junior.now) c.self.view_is

pub returns-in_default : goal.returns-in_default
returns-in_default c =
    let h = c.self.inside.table in
    c.eq.ensures
    ∙ elim c.in_default.branch [
      | in_default-via-in-Some+in_default w ↦ stranger-below h c.self.invariant.kept
          c.args.senior.now c.args.junior.now (sym w.in_default.ensures'.found)
      | in_default-via-in_default w ↦ stranger-above h c.args.senior.now c.args.junior.now
          (sym c.place.ensures.found
          ∙ ap is_some w.in_default.is-0)
    ]
    ∙ ap (λ k. at_least k c.args.senior.now c.args.junior.now) c.self.view_is
