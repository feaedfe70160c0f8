-- Answers to the goals of `place_of` in `src/pair.rt`.
use Rattle.std.proofs.Common.{rules, get_or, ◌<ℤ◌, arith, w64}
use Rattle.std.specs.Prelude.{int_lt}
use mir.Val.{SFits}
use Rattle.std.proofs.lemmas.Int.{to_z-of_z}
use Rattle.std.proofs.lemmas.List.Elements.{All-more}
use Rattle.mpw_edges.specs.declared.pair.Edge.{Edge}
use Rattle.mpw_edges.proofs.Region.{no_edge}
use Rattle.mpw_edges.proofs.Tests.{gt_from_test}
use Rattle.mpw_edges.proofs.Bounding.{computed, partitioned_by_x, left_of_place}
use Rattle.mpw_edges.proofs.pair.place_of.Goals as goal

pub loop-k-preserved : goal.loop-k-preserved
loop-k-preserved c =
    let next : Edge = get_or c.args.tos.now c.loop-k.k no_edge in
    let from_fits : SFits w64 c.args.from.now.x = search rules in
    let next_fits : SFits w64 next.x = search rules in
    All-more (λ (to : Edge). to.x <ℤ c.args.from.now.x) c.args.tos.now c.loop-k.k no_edge
    (omega arith) c.loop-k.invariant (gt_from_test c.args.from.now.x next.x
    (rw (to_z-of_z w64 c.args.from.now.x from_fits, to_z-of_z w64 next.x next_fits) at
    c.if-from-tos.false))

pub returns-clause-left : goal.returns-clause-left
returns-clause-left c =
    left_of_place c.args.tos.now c.args.from.now.x c.partition_point.result
    (computed (λ (e : Edge). int_lt e.x c.args.from.now.x) c.args.tos.now c.partition_point.result
    c.partition_point.ensures.partitioned (λ a b f k. search rules)
    (partitioned_by_x c.args.tos.now c.args.from.now.x c.requires.ordered))
