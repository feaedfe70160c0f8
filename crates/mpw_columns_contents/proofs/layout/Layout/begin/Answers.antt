-- Answers to the goals of `Layout::begin` in `src/making.rt`.
use Rattle.std.proofs.Common.{[], subst}
use Rattle.mpw_hier.specs.Values.{flat}
use Rattle.mpw_columns_contents.specs.declared.thing.Thing.TheVariants as things
use Rattle.mpw_columns_contents.specs.Things.{thing_items}
use Rattle.mpw_columns_contents.specs.Internal.Making.{Adds}
use Rattle.mpw_columns_contents.proofs.Adding.{adds_same}
use Rattle.mpw_columns_contents.proofs.layout.Layout.begin.Goals as goal

pub returns : goal.returns
returns c =
    let l = c.args.self.now in
    let ss = l.shelf.now in
    let top = c.in-Some.top in
    let new = c.put_array.new.things.items in
    adds_same l (thing_items ss (things.Array top)) (flat ss 0) [] new c.in-Some.ensures.shown
    (subst (λ ts. Adds l (thing_items ss (things.Array top)) ts new) c.new-things.ensures.items
    c.in_ok-put_array.ensures)
