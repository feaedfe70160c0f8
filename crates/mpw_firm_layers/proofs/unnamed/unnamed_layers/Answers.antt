-- Answers to the goals of `unnamed_layers` in `src/unnamed.rt`.
use Rattle.std.proofs.Common.{◌∙◌}
use Rattle.mpw_firm_layers.proofs.Adding.{roots_gathered}
use Rattle.mpw_firm_layers.proofs.unnamed.unnamed_layers.Goals as goal

pub returns : goal.returns
returns c =
    let rules = c.args.rules.now in
    let roots = c.args.roots.now in
    c.in_ok-add_roots.ensures
    ∙ rw (c.new-layers.ensures, c.deref.ensures.value)
    (roots_gathered c.names_are_shown.ensures c.args.shelf.now rules c.in_ok-lists.lists.items
    c.in_ok-lists.ensures roots)
