-- Answers to the goals of `Layout::finish` in `src/making.rt`.
use Rattle.std.proofs.Common.{[], subst}
use Rattle.mpw_columns_contents.specs.Things.{things_items}
use Rattle.mpw_columns_contents.specs.Internal.Making.{Adds}
use Rattle.mpw_columns_contents.proofs.Adding.{adds_all, adds_again, adds_shows}
use Rattle.mpw_columns_contents.proofs.layout.Layout.finish.Goals as goal

pub loop-init : goal.loop-init
loop-init c = adds_all c.args.self.now c.args.from.items c.requires.things c.requires.boxed

pub returns-then-not-are_opened-clause-shows : goal.returns-then-not-are_opened-clause-shows
returns-then-not-are_opened-clause-shows c =
    let l = c.args.self.now in
    adds_shows l (things_items l.shelf.now c.args.from.items) c.loop.things.items c.loop.invariant

pub loop-preserved : goal.loop-preserved
loop-preserved c =
    let l = c.args.self.now in
    let new = c.in_ok-things.things.items in
    adds_again l (things_items l.shelf.now c.args.from.items) c.loop.things.items new
    c.loop.invariant
    (subst (λ ts. Adds l (things_items l.shelf.now ts) [] new) c.deref-in-loop.ensures.value
    c.in_ok-things.ensures)
