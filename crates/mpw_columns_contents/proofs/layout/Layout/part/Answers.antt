-- Answers to the goals of `Layout::part` in `src/part.rt`.
use Rattle.std.proofs.lemmas.Result.{IfOk-weaker}
use Rattle.mpw_columns_contents.specs.Things.{things_items}
use Rattle.mpw_columns_contents.proofs.Adding.{adds_shows, shows_again}
use Rattle.mpw_columns_contents.proofs.layout.Layout.part.Goals as goal

pub returns-then-is_open-clause-shows : goal.returns-then-is_open-clause-shows
returns-then-is_open-clause-shows c =
    let l = c.args.self.now in
    let ss = l.shelf.now in
    let old = things_items ss c.args.old.now in
    let first = c.in_ok-fitted.fitted.things.items in
    IfOk-weaker c.finish.result _ _
    (λ contents h. shows_again l.window old (things_items ss first)
    (things_items ss contents) (adds_shows l old first c.in_ok-fitted.ensures) h)
    c.finish.ensures.shows
