-- Answers to the goals of `Walk::within` in `src/walk.rt`.
use Rattle.std.proofs.Common.{ap, ◌∙◌}
use Rattle.mpw_walk.specs.Turns.{given}
use Rattle.mpw_walk.proofs.Starts.{met_given}
use Rattle.mpw_walk.proofs.walk.Walk.within.Goals as goal

pub returns-clause-left : goal.returns-clause-left
returns-clause-left c = c.start.ensures.left

pub returns-clause-given : goal.returns-clause-given
returns-clause-given c =
    ap given c.start.ensures.left ∙ met_given c.args.window c.args.shelf.now c.args.roots.now
