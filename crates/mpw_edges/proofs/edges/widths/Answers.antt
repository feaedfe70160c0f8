-- Answers to the goals of `widths` in `src/edges.rt`.
use Rattle.std.proofs.Common.{[], subst}
use Rattle.mpw_region.specs.Internal.Runs.{Adds}
use Rattle.mpw_edges.specs.Internal.Pairs.{IsWidthOf}
use Rattle.mpw_edges.proofs.Found.{finds_widths, adds_to_none}
use Rattle.mpw_edges.proofs.edges.widths.Goals as goal

pub returns : goal.returns
returns c =
    let runs = c.add_widths.new.runs.items in
    finds_widths runs c.args.boxes.now c.args.distance c.args.core c.requires
    (subst (λ limits. Adds [] runs (IsWidthOf limits c.args.boxes.now)) c.apart-limits.ensures
    (adds_to_none _ _ _ c.in_ok-runs.ensures.items c.in_ok-add_widths.ensures))
