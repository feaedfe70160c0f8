-- Answers to the goals of `rectangles_of_things` in `src/things.rt`.
use Rattle.std.proofs.Common.{List, subst, IfSome}
use Rattle.mpw_columns_contents.specs.declared.thing.Thing.{Thing}
use Rattle.mpw_columns_contents.specs.Things.{things_items}
use Rattle.mpw_columns.specs.Internal.Listed.{ShowSeen}
use Rattle.mpw_columns.specs.Internal.Pieces.{AreThingsIn}
use Rattle.mpw_columns.proofs.ThingsListed.{of_some, part_told, rectangles_told}
use Rattle.mpw_columns.proofs.things.rectangles_of_things.Goals as goal

pub returns : goal.returns
returns c =
    let l = c.args.task.now.layout.now in
    let axis = c.args.task.now.axis in
    let told = of_some c.within.result c.in_ok-shapes.field-0 c.in-Some.shapes
    (AreThingsIn l axis c.args.core.now) c.in_ok-shapes.was c.in-Some.is
    (part_told c.squares_lie_in_boxes.ensures.boxes l axis c.args.core.now c.window.result
    c.args.things.now c.shelf.result.now c.within.result c.window.ensures c.shelf.ensures
    c.requires.things c.within.ensures.boxed c.within.ensures.whole c.within.ensures.sound) in
    rectangles_told l axis c.args.core.now c.window_of.result c.in-Some.shapes
    c.in-Some-2.listed.items c.as_slice.result.now c.in_ok-parts.parts.items c.by_layer.result.items
    c.requires.layout.short c.requires.upright told
    (subst (λ (ts : List Thing). ShowSeen l.layers.now axis (things_items l.snapshot.now.shelf ts)
    c.in-Some-2.listed.items) c.things.ensures.things
    (subst (λ o. IfSome o (λ v. ShowSeen l.layers.now axis
    (things_items l.snapshot.now.shelf c.things.result.now) v.items)) c.in-Some-2.is c.in_ok-listed.ensures))
    c.as_slice.ensures.value c.window_of.ensures c.in_ok-parts.ensures c.by_layer.ensures
