-- Answers to the goals of `Layout::fill` in `src/making.rt`.
use Rattle.std.proofs.lemmas.Result.{IfOk-weaker}
use Rattle.mpw_hier.specs.Values.{flat}
use Rattle.mpw_columns_contents.specs.Things.{things_items}
use Rattle.mpw_columns_contents.proofs.Adding.{adds_shows, shows_again}
use Rattle.mpw_columns_contents.proofs.layout.Layout.fill.Goals as goal

pub returns-clause-shows : goal.returns-clause-shows
returns-clause-shows c =
    let l = c.args.self.now in
    let ss = l.shelf.now in
    let first = c.in_ok-things.things.items in
    IfOk-weaker c.finish.result _ _
    (λ contents h. shows_again l.window (flat ss 0) (things_items ss first)
    (things_items ss contents) (adds_shows l (flat ss 0) first c.in_ok-things.ensures) h)
    c.finish.ensures.shows
