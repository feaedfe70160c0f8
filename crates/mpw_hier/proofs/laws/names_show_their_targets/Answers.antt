-- Answers to the goals of `names_show_their_targets` in `src/laws.rt`.
use Rattle.mpw_hier.proofs.Named.{own_names, outer_names, last_nodes, many_lists}
use Rattle.mpw_hier.proofs.laws.names_show_their_targets.Goals as goal

pub returns : goal.returns
returns c = record {
  own = own_names;
  outer = outer_names;
  last = last_nodes;
  many = many_lists;
}
