-- Answers to the goals of `add_band_pairs` in `src/pair.rt`.
use Rattle.std.proofs.Common.{arith}
use Rattle.mpw_edges.specs.Internal.Pairs.{IsPairFrom}
use Rattle.mpw_region.proofs.Adding.{Adds-start, Adds-more, Adds-all}
use Rattle.mpw_edges.proofs.Region.{no_edge}
use Rattle.mpw_edges.proofs.Bounding.{left_of_later}
use Rattle.mpw_edges.proofs.pair.add_band_pairs.Goals as goal

pub loop-from-init : goal.loop-from-init
loop-from-init c = record {
  adds = Adds-start c.args.runs.now.items
      (λ from. IsPairFrom c.args.side c.args.limits.now c.args.tos.now from);
  within = omega arith;
  left = λ k d l b i e m. absurd (omega (arith, m));
}

pub place_of-start-requires-clause-left : goal.place_of-start-requires-clause-left
place_of-start-requires-clause-left c = c.loop-from.invariant.left c.loop-from.from-index no_edge
    (omega arith) c.loop-from-test.true

pub loop-from-preserved : goal.loop-from-preserved
loop-from-preserved c = record {
  adds = Adds-more c.args.runs.now.items _ _
      (λ from. IsPairFrom c.args.side c.args.limits.now c.args.tos.now from) c.args.froms.now
      c.loop-from.from-index no_edge c.loop-from-test.true c.loop-from.invariant.adds
      c.in_ok-add_pairs_from.ensures;
  within = c.place_of-start.ensures.within;
  left = left_of_later c.args.froms.now c.args.tos.now c.loop-from.from-index
      c.place_of-start.result c.requires.froms c.loop-from-test.true c.place_of-start.ensures.left;
}

pub returns : goal.returns
returns c = Adds-all c.args.runs.now.items _
    (λ from. IsPairFrom c.args.side c.args.limits.now c.args.tos.now from) c.args.froms.now
    c.loop-from.from-index c.loop-from-test.false c.loop-from.invariant.adds
