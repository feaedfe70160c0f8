-- Answers to the goals of `names_list_their_targets` in `src/laws.rt`.
use Rattle.mpw_hier.proofs.Named.{own_lists, outer_lists, top_lists}
use Rattle.mpw_hier.proofs.laws.names_list_their_targets.Goals as goal

pub returns : goal.returns
returns g c = record {
  own = own_lists;
  outer = outer_lists;
  tops = top_lists;
}
