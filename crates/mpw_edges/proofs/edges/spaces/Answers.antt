-- Answers to the goals of `spaces` in `src/edges.rt`.
use Rattle.std.proofs.Common.{[], map, subst}
use Rattle.mpw_region.specs.Internal.Runs.{Adds}
use Rattle.mpw_edges.specs.Internal.Pairs.{IsPairOf, fall_of, rise_of}
use Rattle.mpw_edges.proofs.Found.{finds_spaces, adds_to_none}
use Rattle.mpw_edges.proofs.edges.spaces.Goals as goal

pub returns : goal.returns
returns c =
    let runs = c.add_pairs_of.new.runs.items in
    let boxes = c.args.boxes.now in
    finds_spaces runs boxes c.args.distance c.args.core c.requires
    (subst (λ limits. Adds [] runs (IsPairOf 0 limits (map fall_of boxes) (map rise_of boxes)))
    c.apart-limits.ensures
    (adds_to_none _ _ _ c.in_ok-runs.ensures.items c.in_ok-add_pairs_of.ensures))
