-- Answers to the goals of `add_pairs_from` in `src/pair.rt`.
use Rattle.mpw_edges.specs.Internal.Pairs.{IsPairPlace}
use Rattle.mpw_region.proofs.Adding.{Adds-more, Adds-all}
use Rattle.mpw_edges.proofs.Region.{no_edge}
use Rattle.mpw_edges.proofs.Pairing.{none_outside, pairs_from_start, pairs_from_past}
use Rattle.mpw_edges.proofs.pair.add_pairs_from.Goals as goal

pub loop-k-init : goal.loop-k-init
loop-k-init c = pairs_from_start c.args.side c.args.limits.now c.args.from.now c.args.tos.now
    c.args.runs.now.items _ c.requires.left

pub returns-then-is_past : goal.returns-then-is_past
returns-then-is_past c =
    pairs_from_past c.args.side c.args.limits.now c.args.from.now c.args.tos.now
    c.args.runs.now.items c.loop-k.runs.items c.loop-k.k c.requires.ordered c.loop-k-test.true
    (c.is_past.ensures c.if-is_past.true) c.loop-k.invariant

pub returns-then-not-is_inside : goal.returns-then-not-is_inside
returns-then-not-is_inside c = none_outside c.args.side c.args.limits.now c.args.from.now
    c.args.tos.now c.args.runs.now.items c.if-not-is_inside.ensures

pub loop-k-preserved : goal.loop-k-preserved
loop-k-preserved c = Adds-more c.args.runs.now.items _ _
    (λ to. IsPairPlace c.args.side c.args.limits.now c.args.from.now to) c.args.tos.now c.loop-k.k
    no_edge c.loop-k-test.true c.loop-k.invariant c.in_ok-add_pair.ensures

pub returns : goal.returns
returns c = Adds-all c.args.runs.now.items _
    (λ to. IsPairPlace c.args.side c.args.limits.now c.args.from.now to) c.args.tos.now c.loop-k.k
    c.loop-k-test.false c.loop-k.invariant
