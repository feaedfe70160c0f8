-- Answers to the goals of `pieces` in `src/cells.rt`.
use Rattle.std.proofs.Common.{arith}
use Rattle.mpw_region.specs.Squares.{covers}
use Rattle.mpw_checks.proofs.cells.pieces.Goals as goal

pub returns-clause-exact : goal.returns-clause-exact
returns-clause-exact c = c.pieces_in.ensures.exact c.args.rule.now.distance
    (covers c.args.first.now) (covers c.args.second.now) c.args.core c.in_ok-strips.ensures
    (omega arith)
