-- Answers to the goals of `listing_of` in `src/first.rt`.
use Rattle.std.proofs.Common.{rules, subst, sym}
use Rattle.std.specs.Prelude.{All}
use Rattle.mpw_geom.specs.declared.plane.Box2.{Box2}
use Rattle.mpw_columns_keys.specs.declared.column.Column.{Column}
use Rattle.mpw_columns_keys.specs.Columns.{seen_box, upright}
use Rattle.mpw_columns.specs.Internal.Found.{IsUpright}
use Rattle.mpw_columns.proofs.Looking.{columns_upright}
use Rattle.mpw_columns.proofs.ListingMade.{none_found}
use Rattle.mpw_columns.proofs.first.listing_of.Goals as goal

pub returns-in_default : goal.returns-in_default
returns-in_default g c =
    none_found c.args.snapshot.now c.args.sought.now.most c.args.sought.now.columns.now _ (search rules)
    c.requires.within c.new.ensures.items c.new-in_default.ensures.items

pub listing_in-requires-clause-upright : goal.listing_in-requires-clause-upright
listing_in-requires-clause-upright g c κs alive =
    let columns = c.args.sought.now.columns.now in
    subst (λ (b : Box2). All (λ (c : Column). IsUpright (upright (seen_box c.axis b) c)) columns)
    (sym c.layout-layout.ensures.extent) (columns_upright c.args.snapshot.now c.in-Some.extent columns
    (search rules) (search rules) (search rules) c.requires.within)
