-- Answers to the goals of `between` in `src/edges.rt`.
use Rattle.mpw_edges.proofs.Found.{finds_between, adds_to_none}
use Rattle.mpw_edges.proofs.edges.between.Goals as goal

pub returns : goal.returns
returns c =
    finds_between c.add_pairs_of.new.runs.items c.add_pairs_of-2.new.runs.items c.args.distance
    c.args.core c.args.ends c.args.first.now c.args.second.now c.requires.first c.requires.second
    (adds_to_none _ _ _ c.in_ok-runs.ensures.items c.in_ok-add_pairs_of.ensures)
    c.in_ok-add_pairs_of-2.ensures
