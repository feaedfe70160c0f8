-- Answers to the goals of `Layout::fit` in `src/part.rt`.
use Rattle.std.proofs.Common.{[]}
use Rattle.mpw_columns_contents.specs.Things.{thing_items, things_items}
use Rattle.mpw_columns_contents.proofs.Adding.{adds_more}
use Rattle.mpw_columns_contents.proofs.layout.Layout.fit.Goals as goal

pub loop-thing-preserved : goal.loop-thing-preserved
unfolding things_items
loop-thing-preserved c =
    let l = c.args.self.now in
    adds_more l (thing_items l.shelf.now) c.args.old.now c.loop-thing.thing-index _ []
    c.loop-thing.things.items c.fit_thing.new.things.items
    c.loop-thing-test.true c.loop-thing.invariant c.in_ok-fit_thing.ensures
