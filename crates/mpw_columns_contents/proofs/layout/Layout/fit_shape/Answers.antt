-- Answers to the goals of `Layout::fit_shape` in `src/part.rt`.
use Rattle.std.proofs.Common.{refl, sym, subst}
use Rattle.mpw_columns_contents.specs.Contents.{IsBoxed, IsNear}
use Rattle.mpw_columns_contents.specs.Internal.Making.{Adds, IsThing}
use Rattle.mpw_columns_contents.specs.Things.{element_in, thing_items}
use Rattle.mpw_columns_contents.proofs.Adding.{adds_one, area_out, shows_same}
use Rattle.mpw_columns_contents.proofs.layout.Layout.fit_shape.Goals as goal

pub returns-then-not-is_area_met : goal.returns-then-not-is_area_met
unfolding thing_items
returns-then-not-is_area_met c =
    let l = c.args.self.now in
    let shape = c.args.shape.now in
    let old = c.args.things.now.items in
    subst (λ thing. Adds l (thing_items l.shelf.now thing) old old) (sym c.requires.same)
    (area_out l shape.placing (element_in l.shelf.now shape.structure shape.element) shape.area old
    (subst (IsBoxed l.shelf.now) c.requires.same c.requires.boxed)
    (c.is_area_met.ensures c.if-not-is_area_met.true))

pub returns : goal.returns
returns c =
    let l = c.args.self.now in
    let shown = thing_items l.shelf.now c.args.thing.now in
    adds_one l shown c.args.things.now.items c.push.new.things.items c.args.thing.now
    c.in_ok-push.ensures.added
    (subst (IsThing l.nodes.now) (sym c.requires.same) (subst IsNear c.requires.same c.requires.near))
    c.requires.boxed (shows_same l.window shown shown refl)
