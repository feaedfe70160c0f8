-- Answers to the goals of `band_length` in `src/pair.rt`.
use Rattle.std.proofs.Common.{rules, get_or, ◌≤ℤ◌, arith, w64}
use Rattle.std.specs.Prelude.{int_le}
use mir.Val.{SFits}
use Rattle.std.proofs.lemmas.Int.{to_z-of_z}
use Rattle.std.proofs.lemmas.List.Elements.{All-more}
use Rattle.mpw_geom.proofs.Tests.{lt_from_test}
use Rattle.mpw_edges.specs.declared.pair.Edge.{Edge}
use Rattle.mpw_edges.proofs.Region.{no_edge}
use Rattle.mpw_edges.proofs.Tests.{ge_from_test}
use Rattle.mpw_edges.proofs.Bounding.{computed, partitioned_by_row, only_first, IsBand-from_search, IsBand-from_steps}
use Rattle.mpw_edges.proofs.pair.band_length.Goals as goal

pub loop-n-init : goal.loop-n-init
loop-n-init c = only_first c.args.edges.now

pub loop-n-preserved : goal.loop-n-preserved
loop-n-preserved c =
    let first : Edge = get_or c.args.edges.now 0 no_edge in
    let next : Edge = get_or c.args.edges.now c.loop-n.n no_edge in
    let first_fits : SFits w64 first.y0 = search rules in
    let next_fits : SFits w64 next.y0 = search rules in
    All-more (λ (e : Edge). e.y0 ≤ℤ first.y0) c.args.edges.now c.loop-n.n no_edge (omega arith)
    c.loop-n.invariant (ge_from_test first.y0 next.y0
    (rw (to_z-of_z w64 first.y0 first_fits, to_z-of_z w64 next.y0 next_fits) at c.if-first-edges.false))

pub returns-then-first-edges : goal.returns-then-first-edges
returns-then-first-edges c =
    let first : Edge = get_or c.args.edges.now 0 no_edge in
    let next : Edge = get_or c.args.edges.now c.loop-n.n no_edge in
    let first_fits : SFits w64 first.y0 = search rules in
    let next_fits : SFits w64 next.y0 = search rules in
    IsBand-from_steps c.args.edges.now c.loop-n.n c.requires.edges c.requires.some (omega arith)
    c.loop-n.invariant (lt_from_test first.y0 next.y0
    (rw (to_z-of_z w64 first.y0 first_fits, to_z-of_z w64 next.y0 next_fits) at c.if-first-edges.true))

pub returns : goal.returns
returns c =
    let first : Edge = get_or c.args.edges.now 0 no_edge in
    IsBand-from_search c.args.edges.now c.partition_point.result c.requires.edges c.requires.some
    c.partition_point.ensures.bound
    (computed (λ (e : Edge). int_le e.y0 first.y0) c.args.edges.now c.partition_point.result
    c.partition_point.ensures.partitioned (λ a b f k. search rules)
    (partitioned_by_row c.args.edges.now first.y0 c.requires.edges))
