-- Answers to the goals of `names_are_walked` in `src/laws.rt`.
use Rattle.mpw_walk.specs.Internal.Named.{own_turns}
use Rattle.mpw_walk.specs.Turns.{placed_turns}
use Rattle.mpw_walk.proofs.laws.names_are_walked.Goals as goal

pub returns : goal.returns
returns c =
    let shown = c.names_show_their_targets.ensures in
    let lists = c.names_list_their_targets.ensures in record {
      own = shown.own;
      outer = shown.outer;
      last = shown.last;
      many = shown.many;
      own_turns_are = lists.own own_turns placed_turns;
      outer_turns_are = lists.outer own_turns placed_turns;
      top_turns_are = lists.tops own_turns placed_turns;
      extents = c.extents_are_walked.ensures;
    }
