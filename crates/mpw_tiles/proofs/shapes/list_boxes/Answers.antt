-- Answers to the goals of `list_boxes` in `src/shapes.rt`.
use Rattle.std.proofs.Common.{[], take, ◌∙◌, List, subst, arith}
use Rattle.std.proofs.lemmas.Int.{ints}
use Rattle.std.proofs.lemmas.List.{take_all}
use Rattle.mpw_geom.specs.declared.plane.Box2.{Box2}
use Rattle.mpw_geom.proofs.Squares.{no_box}
use Rattle.mpw_tiles.specs.Listing.{HasSquareOf}
use Rattle.mpw_tiles.specs.Internal.Listing.{AddsSquares, HasPlacedSquare}
use Rattle.mpw_tiles.proofs.Added.{adds_none, adds_next}
use Rattle.mpw_tiles.proofs.Showing.{no_boxes, boxes_more}
use Rattle.mpw_tiles.proofs.shapes.list_boxes.Goals as goal

pub loop-b-init : goal.loop-b-init
loop-b-init c =
    adds_none c.args.plan.now c.args.lists.now.items (HasPlacedSquare [] c.args.shape.now)
    (no_boxes c.args.shape.now)

pub loop-b-preserved : goal.loop-b-preserved
loop-b-preserved c =
    let shape = c.args.shape.now in
    let i = c.loop-b.b-index in
    let boxes = c.args.boxes.now in
    adds_next c.args.plan.now c.args.lists.now.items c.loop-b.lists.items
    c.list_rectangle.new.lists.items (HasPlacedSquare (take i boxes) shape)
    (HasSquareOf c.rectangle.result) _
    (boxes_more c.args.plan.now boxes i _ shape c.rectangle.result c.requires.plane
    c.loop-b-test.true c.rectangle.ensures) c.loop-b.invariant c.in_ok-list_rectangle.ensures.ok

pub rectangle-requires : goal.rectangle-requires
rectangle-requires c =
    let area = c.requires.area c.loop-b.b-index no_box c.loop-b-test.true in
    record { x = omega (arith, ints, area.width); y = omega (arith, ints, area.height) }

pub list_rectangle-requires-clause-count : goal.list_rectangle-requires-clause-count
list_rectangle-requires-clause-count c = c.loop-b.invariant.count ∙ c.requires.count

pub list_rectangle-requires-clause-plane : goal.list_rectangle-requires-clause-plane
list_rectangle-requires-clause-plane c = c.rectangle.ensures.plane

pub returns : goal.returns
returns c = record {
  ok = subst (λ (bs : List Box2). AddsSquares c.args.plan.now c.args.lists.now.items
      c.loop-b.lists.items (HasPlacedSquare bs c.args.shape.now))
      (take_all c.loop-b.b-index c.args.boxes.now c.loop-b-test.false) c.loop-b.invariant;
}
