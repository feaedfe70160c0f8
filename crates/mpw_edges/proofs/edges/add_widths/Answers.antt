-- Answers to the goals of `add_widths` in `src/edges.rt`.
use Rattle.std.proofs.Common.{get_or, subst}
use Rattle.mpw_geom.proofs.Squares.{no_box}
use Rattle.mpw_edges.specs.declared.pair.Edge.{Edge}
use Rattle.mpw_region.specs.Internal.Runs.{Adds}
use Rattle.mpw_edges.specs.Internal.Pairs.{IsPairPlace, rise_of, fall_of}
use Rattle.mpw_region.proofs.Adding.{Adds-start, Adds-more, Adds-all}
use Rattle.mpw_edges.proofs.edges.add_widths.Goals as goal

pub loop-b-init : goal.loop-b-init
loop-b-init c =
    Adds-start c.args.runs.now.items (λ b. IsPairPlace 0 c.args.limits.now (rise_of b) (fall_of b))

pub loop-b-preserved : goal.loop-b-preserved
loop-b-preserved c =
    Adds-more c.args.runs.now.items _ _
    (λ b. IsPairPlace 0 c.args.limits.now (rise_of b) (fall_of b)) c.args.boxes.now
    c.loop-b.b-index no_box c.loop-b-test.true c.loop-b.invariant
    (subst (λ (e : Edge). Adds c.loop-b.runs.items c.add_pair.new.runs.items
    (IsPairPlace 0 c.args.limits.now e
    (fall_of (get_or c.args.boxes.now c.loop-b.b-index no_box)))) c.rise.ensures
    (subst (λ (e : Edge). Adds c.loop-b.runs.items c.add_pair.new.runs.items
    (IsPairPlace 0 c.args.limits.now c.rise.result e)) c.fall.ensures c.in_ok-add_pair.ensures))

pub returns : goal.returns
returns c = Adds-all c.args.runs.now.items _
    (λ b. IsPairPlace 0 c.args.limits.now (rise_of b) (fall_of b)) c.args.boxes.now c.loop-b.b-index
    c.loop-b-test.false c.loop-b.invariant
