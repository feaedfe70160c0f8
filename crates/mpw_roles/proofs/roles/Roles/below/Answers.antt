-- The roles whose indexes the joined masks have.
use Rattle.std.proofs.Common.{◌∙◌, sym, ap}
use Rattle.mpw_roles.specs.Order.{roles_below}
use Rattle.mpw_roles.specs.Places.{is_place_below}
use Rattle.mpw_roles.proofs.PlacesLemmas.{below-places}
use Rattle.mpw_roles.proofs.roles.Roles.below.Goals as goal

pub returns : goal.returns
returns c =
    let h = c.self.inside.table in
    let seniors = c.args.seniors.now in
    c.new.ensures
    ∙ below-places h seniors c.mask_below-mask.result (λ q. c.mask_below-mask.ensures q
    ∙ ap (λ k. is_place_below k seniors q) (sym c.self.view_is))
    ∙ ap (λ k. roles_below k seniors) c.self.view_is
