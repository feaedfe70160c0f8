-- Answers to the goals of `edges_in_turn` in `src/edge.rt`.
use Rattle.std.proofs.Common.{◌≡◌, refl, ◌<◌, ◌∙◌, sym, ap, length, count_by, arith, List}
use Rattle.std.proofs.lemmas.Bool.{eqb-true, eqb-false}
use Rattle.mpw_shapes.specs.declared.edge.Edge.{Edge}
use Rattle.mpw_shapes.specs.Internal.Edges.{rises_left, falls_left}
use Rattle.mpw_shapes.proofs.Chains.{taken_none, taken_more, taken_up, taken_down, upward_none, downward_none}
use Rattle.mpw_shapes.proofs.edge.edges_in_turn.Goals as goal

pub returns-then-is_empty-clause-up : goal.returns-then-is_empty-clause-up
returns-then-is_empty-clause-up c =
    let e = eqb-true _ _ (sym c.is_empty.ensures ∙ c.if-is_empty.true) in
    λ s. ap (λ (xs : List Edge). count_by (rises_left s) xs) c.new-edges.ensures.items
    ∙ sym (upward_none c.args.corners.now s e)

pub returns-then-is_empty-clause-down : goal.returns-then-is_empty-clause-down
returns-then-is_empty-clause-down c =
    let e = eqb-true _ _ (sym c.is_empty.ensures ∙ c.if-is_empty.true) in
    λ s. ap (λ (xs : List Edge). count_by (falls_left s) xs) c.new-edges.ensures.items
    ∙ sym (downward_none c.args.corners.now s e)

pub loop-to-init : goal.loop-to-init
loop-to-init c =
    let e = eqb-false _ _ (sym c.is_empty.ensures ∙ c.if-is_empty.false) in
    let h : 0 < length c.args.corners.now = omega (arith, e) in
    rw c.new-edges.ensures.items (taken_none c.args.corners.now h)

pub loop-to-preserved : goal.loop-to-preserved
loop-to-preserved c =
    let m = c.in_ok-push_edge.ensures in
    taken_more c.args.corners.now c.loop-to.to-index c.loop-to.from _ _ _ c.loop-to.invariant
    c.loop-to-test.true refl m.up m.down m.ends

pub returns-clause-up : goal.returns-clause-up
returns-clause-up c =
    let e = eqb-false _ _ (sym c.is_empty.ensures ∙ c.if-is_empty.false) in
    let h : 0 < length c.args.corners.now = omega (arith, e) in
    let k : c.loop-to.to-index ≡ length c.args.corners.now =
    omega (arith, c.loop-to-test.false, c.loop-to.auto.to-index-end) in
    taken_up c.args.corners.now c.loop-to.from _ (rw k at c.loop-to.invariant) h

pub returns-clause-down : goal.returns-clause-down
returns-clause-down c =
    let e = eqb-false _ _ (sym c.is_empty.ensures ∙ c.if-is_empty.false) in
    let h : 0 < length c.args.corners.now = omega (arith, e) in
    let k : c.loop-to.to-index ≡ length c.args.corners.now =
    omega (arith, c.loop-to-test.false, c.loop-to.auto.to-index-end) in
    taken_down c.args.corners.now c.loop-to.from _ (rw k at c.loop-to.invariant) h
