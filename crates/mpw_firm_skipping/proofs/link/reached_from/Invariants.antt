-- The invariants of the loops of `reached_from` in `src/link.rt`.
use Rattle.std.proofs.Common.{length, map}
use Rattle.mpw_firm_skipping.specs.Internal.Passes.{link_of}
use Rattle.mpw_firm_skipping.proofs.Reaching.{IsOnTheWay}
use Rattle.mpw_firm_skipping.proofs.link.reached_from.Given as goal

abbrev pub invariant-loop-waiting : goal.invariant-loop-waiting
invariant-loop-waiting l =
    IsOnTheWay (map link_of l.fn.links.items) l.top (map link_of l.waiting.items)
    (map (λ n. n.now) l.names.items)

abbrev pub decreases-loop-waiting : goal.decreases-loop-waiting
decreases-loop-waiting l = length l.waiting.items
