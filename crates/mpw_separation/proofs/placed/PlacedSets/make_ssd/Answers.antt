-- The masks of the static sets are made as those of the kind; the dynamic sets stay.
use Rattle.std.proofs.Common.{sym, subst}
use Rattle.mpw_roles.specs.Hierarchy.{role_names}
use Rattle.mpw_separation.specs.Placed.{ArePlaced, AreSetsPlaced}
use Rattle.mpw_separation.proofs.placed.PlacedSets.make_ssd.Goals as goal

pub returns-clause-placed : goal.returns-clause-placed
returns-clause-placed c = λ placed.
    let old = subst (AreSetsPlaced (role_names c.args.roles.now)) (sym c.self.view_is) placed in record {
      static = c.make.ensures.placed old.static;
      dynamic = subst (λ s. ArePlaced (role_names c.args.roles.now) s c.self.inside.dsd.items) (sym c.make.ensures.others) old.dynamic;
    }
