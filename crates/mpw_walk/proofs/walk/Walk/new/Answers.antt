-- Answers to the goals of `Walk::new` in `src/walk.rt`.
use Rattle.std.proofs.Common.{ap, ◌∙◌}
use Rattle.mpw_walk.specs.Turns.{given, roots_turns}
use Rattle.mpw_walk.proofs.Starts.{all_given}
use Rattle.mpw_walk.proofs.Taken.{taken_all}
use Rattle.mpw_walk.proofs.walk.Walk.new.Goals as goal

pub returns-clause-left : goal.returns-clause-left
returns-clause-left c =
    c.start.ensures.left ∙ taken_all (roots_turns c.args.shelf.now c.args.roots.now)

pub returns-clause-given : goal.returns-clause-given
returns-clause-given c = ap given c.start.ensures.left ∙ all_given c.args.shelf.now c.args.roots.now
