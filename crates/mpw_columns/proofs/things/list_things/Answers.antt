-- Answers to the goals of `list_things` in `src/things.rt`.
use Rattle.std.proofs.Common.{List, ◌++◌, take, subst, sym}
use Rattle.std.proofs.lemmas.List.{take_all}
use Rattle.mpw_hier.specs.Items.{Item}
use Rattle.mpw_columns_contents.specs.declared.thing.Thing.{Thing}
use Rattle.mpw_columns_contents.specs.declared.thing.Thing.TheVariants as variants
use Rattle.mpw_columns_contents.specs.Things.{things_items}
use Rattle.mpw_columns.specs.Internal.Listed.{ShowSeen}
use Rattle.mpw_columns.proofs.ThingsListed.{no_things_listed, thing_listed, shape_items}
use Rattle.mpw_columns.proofs.things.list_things.Goals as goal

pub loop-thing-init : goal.loop-thing-init
loop-thing-init c = no_things_listed c.args.task.now.layout.now.layers.now c.args.task.now.axis
    c.args.task.now.layout.now.snapshot.now.shelf c.new-listed.result.items c.new-listed.ensures.items

pub loop-thing-preserved : goal.loop-thing-preserved
loop-thing-preserved c =
    let l = c.args.task.now.layout.now in
    let ss = l.snapshot.now.shelf in
    let axis = c.args.task.now.axis in
    let done = things_items ss (take c.loop-thing.thing-index c.args.things.now) in
    thing_listed l.layers.now axis ss c.args.things.now c.loop-thing.thing-index _ (variants.Shape c.in-Shape.shape)
    c.list_thing.new.listed.items c.loop-thing-test.true c.in-Shape.is
    (subst (λ (is : List Item). ShowSeen l.layers.now axis (done ++ is) c.list_thing.new.listed.items)
    (sym (shape_items ss c.in-Shape.shape))
    (c.in_ok-list_thing-in-Shape.ensures done c.loop-thing.invariant))

pub returns : goal.returns
returns c =
    let l = c.args.task.now.layout.now in
    subst (λ (ts : List Thing). ShowSeen l.layers.now c.args.task.now.axis
    (things_items l.snapshot.now.shelf ts) c.loop-thing.listed.items)
    (take_all c.loop-thing.thing-index c.args.things.now c.loop-thing-test.false) c.loop-thing.invariant
