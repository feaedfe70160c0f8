-- Answers to the goals of `add_pair` in `src/pair.rt`.
use Rattle.mpw_region.proofs.Adding.{Adds-none, Adds-push}
use Rattle.mpw_edges.specs.Internal.Pairs.{IsPairPlace}
use Rattle.mpw_edges.proofs.pair.add_pair.Goals as goal

pub returns-in_ok-push : goal.returns-in_ok-push
returns-in_ok-push c = rw c.in_ok-push.ensures.items
    (Adds-push c.args.runs.now.items c.in-Some.run'
    (IsPairPlace c.args.side c.args.limits.now c.args.from.now c.args.to.now) c.in-Some.ensures.0
    c.in-Some.ensures.1)

pub returns-in_default : goal.returns-in_default
returns-in_default c = Adds-none c.args.runs.now.items
    (IsPairPlace c.args.side c.args.limits.now c.args.from.now c.args.to.now) c.in_default.ensures
