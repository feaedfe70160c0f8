-- The roles whose indexes the mask has.
use Rattle.std.proofs.Common.{◌∙◌, sym, ap}
use Rattle.mpw_roles.specs.Order.{roles_below}
use Rattle.mpw_roles.specs.Places.{is_place_below}
use Rattle.mpw_roles.proofs.PlacesLemmas.{below-places}
use Rattle.mpw_roles.proofs.roles.Roles.at_places.Goals as goal

pub returns : goal.returns
returns c = λ seniors is.
    let h = c.self.inside.table in
    c.new.ensures
    ∙ below-places h seniors c.args.mask.now
    (λ q. is q ∙ ap (λ k. is_place_below k seniors q) (sym c.self.view_is))
    ∙ ap (λ k. roles_below k seniors) c.self.view_is
