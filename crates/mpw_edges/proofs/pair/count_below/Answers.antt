-- Answers to the goals of `count_below` in `src/pair.rt`.
use Rattle.std.proofs.Common.{rules, get_or, ◌≤ℤ◌, arith, w64}
use mir.Val.{SFits}
use Rattle.std.proofs.lemmas.Int.{to_z-of_z}
use Rattle.std.proofs.lemmas.List.Elements.{All-more}
use Rattle.mpw_edges.specs.declared.pair.Edge.{Edge}
use Rattle.mpw_edges.proofs.Region.{no_edge}
use Rattle.mpw_edges.proofs.Tests.{ge_from_test}
use Rattle.mpw_edges.proofs.pair.count_below.Goals as goal

pub loop-n-preserved : goal.loop-n-preserved
loop-n-preserved c =
    let next : Edge = get_or c.args.edges.now c.loop-n.n no_edge in
    let other_fits : SFits w64 c.args.other.now.y0 = search rules in
    let next_fits : SFits w64 next.y1 = search rules in
    All-more (λ (e : Edge). e.y1 ≤ℤ c.args.other.now.y0) c.args.edges.now c.loop-n.n no_edge
    (omega arith) c.loop-n.invariant (ge_from_test c.args.other.now.y0 next.y1
    (rw (to_z-of_z w64 c.args.other.now.y0 other_fits, to_z-of_z w64 next.y1 next_fits) at
    c.if-other-edges.false))
