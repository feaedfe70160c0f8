-- Answers to the goals of `Layout::open_row` in `src/opening.rt`.
use Rattle.std.proofs.Common.{map, subst}
use Rattle.mpw_geom.specs.declared.placing.Placing.{Placing}
use Rattle.mpw_hier.specs.Items.{placed_item, instance}
use Rattle.mpw_columns_contents.specs.Things.{place_shown, reference_of}
use Rattle.mpw_columns_contents.specs.Internal.Making.{Adds}
use Rattle.mpw_columns_contents.proofs.Adding.{adds_start, adds_column}
use Rattle.mpw_columns_contents.proofs.layout.Layout.open_row.Goals as goal

pub loop-column-init : goal.loop-column-init
loop-column-init c = adds_start c.args.self.now c.args.things.now.items

pub loop-column-preserved : goal.loop-column-preserved
loop-column-preserved c =
    let l = c.args.self.now in
    let shown =
    λ (t : Placing). map (placed_item t) (place_shown l.shelf.now c.args.node.now.structure) in
    let mid = c.loop-column.things.items in
    let new = c.open_instance.new.things.items in
    adds_column l shown c.args.things.now.items mid new c.loop-column.column
    (instance (reference_of c.args.array.now) c.args.row) c.loop-column.invariant
    (subst (λ (t : Placing). Adds l (shown t) mid new) c.in-Some.ensures.placing
    c.in_ok-open_instance.ensures)
