-- Answers to the goals of `Layout::pass_thing` in `src/making.rt`.
use Rattle.std.proofs.Common.{refl}
use Rattle.std.proofs.lemmas.Result.{on_ok_weaker}
use Rattle.mpw_columns_contents.specs.Things.{thing_items}
use Rattle.mpw_columns_contents.proofs.Adding.{adds_one, shows_same}
use Rattle.mpw_columns_contents.proofs.layout.Layout.pass_thing.Goals as goal

pub returns-in-Shape : goal.returns-in-Shape
returns-in-Shape c =
    let l = c.args.self.now in
    let shown = thing_items l.shelf.now c.args.thing.now in
    on_ok_weaker c.push.result
    (λ e. adds_one l shown c.args.things.now.items c.push.new.things.items c.args.thing.now e
    c.requires.thing c.requires.boxed (shows_same l.window shown shown refl))
    c.push.ensures.added
