-- Answers to the goals of `shows` in `src/count.rt`.
use Rattle.mpw_firm_layers.proofs.Counted.{shows_some}
use Rattle.mpw_firm_layers.proofs.count.shows.Goals as goal

pub returns : goal.returns
returns c =
    shows_some c.args.shelf.now c.args.roots.now c.args.layer c.in_ok-count.count
    c.in_ok-count.ensures
