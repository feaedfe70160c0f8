-- Answers to the goals of `sweep` in `src/sweep.rt`.
use Rattle.std.proofs.Common.{◌≡◌, ◌<◌, ◌^◌, sym, length, arith, rules}
use Rattle.std.proofs.lemmas.Int.{ints}
use Rattle.mpw_geom.specs.Plane.{any_has_square}
use Rattle.mpw_shapes.proofs.RowSwept.{sweeping_none, sweeping_next, sweeping_all, no_squares_between}
use Rattle.mpw_shapes.proofs.Swept.{no_edge}
use Rattle.mpw_shapes.proofs.Whole.{clear_gaps}
use Rattle.mpw_shapes.proofs.sweep.sweep.Goals as goal

pub returns-then-rows-lt2-clause-squares : goal.returns-then-rows-lt2-clause-squares
unfolding any_has_square
returns-then-rows-lt2-clause-squares c = λ s. rw c.new-boxes.ensures.items
    (sym (no_squares_between c.args.rows.now c.args.edges.now c.if-rows-lt2.true
    c.requires.from_below c.requires.ends s))

pub loop-edge-init : goal.loop-edge-init
loop-edge-init c = rw c.new-boxes.ensures.items (sweeping_none _ _ _)

pub turn-requires-clause-clear : goal.turn-requires-clause-clear
turn-requires-clause-clear c = λ j h. clear_gaps c.args.rows.now c.args.edges.now
    c.requires.from_below c.requires.ends j h c.loop-edge.edge-index no_edge c.loop-edge-test.true

pub turn-requires-clause-room : goal.turn-requires-clause-room
turn-requires-clause-room c =
    let h : length c.args.edges.now < 2 ^ 63 = search rules in
    let near = c.loop-edge.invariant.near in
    let k = c.loop-edge-test.true in
    omega (arith, ints, h, near, k)

pub loop-edge-preserved : goal.loop-edge-preserved
loop-edge-preserved c =
    sweeping_next _ _ _ _ no_edge _ _ _ _ c.loop-edge.invariant c.requires.from_left
    c.loop-edge-test.true c.in_ok-turn.ensures

pub returns-clause-squares : goal.returns-clause-squares
returns-clause-squares c =
    let e : c.loop-edge.edge-index ≡ length c.args.edges.now =
    omega (arith, c.loop-edge-test.false, c.loop-edge.auto.edge-index-end) in
    sweeping_all c.args.rows.now c.args.edges.now _ _ (rw e at c.loop-edge.invariant)
    c.requires.from_below c.requires.ends c.requires.balanced
