-- Answers to the goals of `Layout::put_children` in `src/opening.rt`.
use Rattle.std.proofs.Common.{map}
use Rattle.std.specs.Prelude.{slice_get}
use Rattle.mpw_hier.specs.declared.node.Child.{Child}
use Rattle.mpw_hier.specs.Items.{placed_item}
use Rattle.mpw_columns_contents.specs.Things.{element_at}
use Rattle.mpw_columns_contents.specs.Internal.Opening.{name_shown, child_shown}
use Rattle.mpw_columns_contents.proofs.Adding.{adds_start, adds_next}
use Rattle.mpw_columns_contents.proofs.layout.Layout.put_children.Goals as goal

pub loop-child-init : goal.loop-child-init
loop-child-init c = adds_start c.args.self.now c.args.things.now.items

pub loop-child-preserved : goal.loop-child-preserved
loop-child-preserved c =
    let l = c.args.self.now in
    let node = c.args.node.now in
    let shown =
    λ (child : Child). map (placed_item c.args.placing) (child_shown (name_shown l.shelf.now)
    (element_at (slice_get l.structures.now node.structure) child.element)) in
    let i = c.loop-child.child-index in
    adds_next l shown c.deref-child-items.result.now node.children.items i _ c.args.things.now.items
    c.loop-child.things.items c.put_child.new.things.items
    c.deref-child-items.ensures.value c.loop-child-test.true c.loop-child.invariant
    c.in_ok-put_child.ensures
