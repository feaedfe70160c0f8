-- Answers to the goals of `Layout::open_instance` in `src/opening.rt`.
use Rattle.std.proofs.Common.{map}
use Rattle.std.specs.Prelude.{slice_get}
use Rattle.std.proofs.lemmas.Result.{on_ok_weaker}
use Rattle.mpw_hier.specs.Items.{placed_item}
use Rattle.mpw_columns_contents.specs.Things.{place_shown}
use Rattle.mpw_columns_contents.specs.Internal.Opening.{name_shown, structure_shapes, structure_children}
use Rattle.mpw_columns_contents.proofs.Adding.{adds_none, adds_same, adds_both, shows_none}
use Rattle.mpw_columns_contents.proofs.Layouts.{node_extent, node_opens}
use Rattle.mpw_columns_contents.proofs.Missing.{placed_missed}
use Rattle.mpw_columns_contents.proofs.layout.Layout.open_instance.Goals as goal

pub returns-then-not-may_meet : goal.returns-then-not-may_meet
returns-then-not-may_meet c =
    let l = c.args.self.now in
    let node = c.args.node.now in
    let items = map (placed_item c.args.placing) (place_shown l.shelf.now node.structure) in
    adds_none l items c.args.things.now.items (shows_none l.window items
    (placed_missed c.names_are_opened.ensures l.window c.args.placing
    (place_shown l.shelf.now node.structure) node.size.extent
    (node_extent l c.requires.layout node c.requires.node)
    (c.may_meet.ensures c.if-not-may_meet.true)))

pub returns : goal.returns
returns c =
    let l = c.args.self.now in
    let node = c.args.node.now in
    let structure = slice_get l.structures.now node.structure in
    let shapes = structure_shapes c.args.placing structure node.shapes in
    let children =
    structure_children c.args.placing (name_shown l.shelf.now) structure node.children.items in
    on_ok_weaker c.put_children.result
    (λ h. adds_same l _ _ c.args.things.now.items c.put_children.new.things.items
    (node_opens l c.requires.layout node c.requires.node c.names_are_opened.ensures c.args.placing)
    (adds_both l shapes children c.args.things.now.items c.put_shapes.new.things.items
    c.put_children.new.things.items
    c.in_ok-put_shapes.ensures h)) c.put_children.ensures
