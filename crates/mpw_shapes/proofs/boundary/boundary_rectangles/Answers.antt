-- Answers to the goals of `boundary_rectangles` in `src/boundary.rt`.
use Rattle.std.proofs.Common.{◌∙◌, ap, List}
use Rattle.mpw_shapes.specs.declared.edge.Edge.{Edge}
use Rattle.mpw_shapes.specs.Internal.Edges.{edges_have}
use Rattle.mpw_shapes.proofs.Chains.{heights_of}
use Rattle.mpw_shapes.proofs.Order.{from_below_from_apart}
use Rattle.mpw_shapes.proofs.Whole.{balanced, ends_among_rows, edges_are_boundary}
use Rattle.mpw_shapes.proofs.boundary.boundary_rectangles.Goals as goal

pub sweep-requires-clause-from_below : goal.sweep-requires-clause-from_below
sweep-requires-clause-from_below c =
    rw c.deref-2.ensures.value (from_below_from_apart c.in_ok-rows.rows.items
    c.in_ok-rows.ensures.apart)

pub sweep-requires-clause-ends : goal.sweep-requires-clause-ends
sweep-requires-clause-ends c =
    rw (c.deref.ensures.value, c.deref-2.ensures.value)
    (ends_among_rows (heights_of c.args.corners.now) c.in_ok-rows.rows.items
    c.in_ok-edges.edges.items c.in_ok-rows.ensures.heights c.in_ok-edges.ensures.ends)

pub sweep-requires-clause-balanced : goal.sweep-requires-clause-balanced
sweep-requires-clause-balanced c =
    λ row. rw c.deref.ensures.value (balanced c.args.corners.now c.in_ok-edges.edges.items row
    c.in_ok-edges.ensures.up c.in_ok-edges.ensures.down)

pub returns-clause-squares : goal.returns-clause-squares
returns-clause-squares c =
    λ s.
    c.in_ok-boxes.ensures.squares s
    ∙ ap (λ (es : List Edge). edges_have es s) c.deref.ensures.value
    ∙ edges_are_boundary c.args.corners.now c.in_ok-edges.edges.items s (c.in_ok-edges.ensures.up s)
    (c.in_ok-edges.ensures.down s)
