-- Answers to the goals of `lists_of_columns` in `src/check.rt`.
use Rattle.std.proofs.Common.{rules, subst, sym}
use Rattle.std.specs.Prelude.{All}
use Rattle.mpw_geom.specs.declared.plane.Box2.{Box2}
use Rattle.mpw_columns_keys.specs.declared.column.Column.{Column}
use Rattle.mpw_columns_keys.specs.Columns.{seen_box, upright}
use Rattle.mpw_columns.specs.Internal.Found.{IsUpright}
use Rattle.mpw_columns.proofs.Looking.{columns_upright}
use Rattle.mpw_columns.proofs.Planned.{none_listed}
use Rattle.mpw_columns.proofs.check.lists_of_columns.Goals as goal

pub every_list-requires-clause-upright : goal.every_list-requires-clause-upright
every_list-requires-clause-upright g c κs alive =
    let columns = c.args.columns.now in
    subst (λ (b : Box2). All (λ (c : Column). IsUpright (upright (seen_box c.axis b) c)) columns)
    (sym c.layout-layout.ensures.extent) (columns_upright c.args.snapshot.now c.in-Some.extent columns
    (search rules) (search rules) (search rules) c.requires.within)

pub returns-in_default : goal.returns-in_default
returns-in_default g c = none_listed c.args.snapshot.now c.args.columns.now c.new.result.items
    (search rules) c.requires.within c.new.ensures.items
