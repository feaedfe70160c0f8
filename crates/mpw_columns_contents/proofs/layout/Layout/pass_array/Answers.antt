-- Answers to the goals of `Layout::pass_array` in `src/making.rt`.
use Rattle.std.proofs.Common.{◌∙◌, ◌++◌, ◌∷◌, [], ap, refl}
use Rattle.mpw_columns_contents.specs.declared.thing.Thing.TheVariants as things
use Rattle.mpw_columns_contents.specs.Things.{thing_items}
use Rattle.mpw_columns_contents.proofs.Adding.{adds_one, shows_same}
use Rattle.mpw_columns_contents.proofs.layout.Layout.pass_array.Goals as goal

pub returns : goal.returns
returns c =
    let l = c.args.self.now in
    let thing = things.Array c.args.array.now in
    let shown = thing_items l.shelf.now thing in
    adds_one l shown c.args.things.now.items c.push.new.things.items thing
    (c.in_ok-push.ensures.added ∙ ap (λ t. c.args.things.now.items ++ t ∷ []) c.requires.same) c.requires.array tt (shows_same l.window shown shown refl)
