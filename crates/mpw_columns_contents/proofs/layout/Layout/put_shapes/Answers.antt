-- Answers to the goals of `Layout::put_shapes` in `src/opening.rt`.
use Rattle.std.proofs.Common.{ℕ, subst, arith}
use Rattle.std.specs.Prelude.{slice_get}
use Rattle.mpw_columns_contents.specs.Internal.Making.{Adds}
use Rattle.mpw_columns_contents.specs.Things.{drawn, element_at}
use Rattle.mpw_columns_contents.proofs.Adding.{adds_start, adds_more}
use Rattle.mpw_columns_contents.proofs.layout.Layout.put_shapes.Goals as goal

pub loop-index-init : goal.loop-index-init
loop-index-init c = adds_start c.args.self.now c.args.things.now.items

pub loop-index-preserved : goal.loop-index-preserved
loop-index-preserved c =
    let l = c.args.self.now in
    let node = c.args.node.now in
    let shown = λ (place : ℕ). drawn c.args.placing
    (element_at (slice_get l.structures.now node.structure) place) in
    let i = c.loop-index.index in
    adds_more l shown node.shapes i 0 c.args.things.now.items c.loop-index.things.items
    c.put_shape.new.things.items (omega (arith, c.loop-index-test.true, c.len-index-end.ensures))
    c.loop-index.invariant (subst (λ place. Adds l (shown place) c.loop-index.things.items
    c.put_shape.new.things.items) c.at-place.ensures c.in_ok-put_shape.ensures)
