-- Answers to the goals of `write_boundary` in `src/shape.rt`.
use Rattle.std.proofs.Common.{ap, ◌++◌}
use Rattle.mpw_reply_text.specs.Reply.{boundary_head, shape_end, shape_text}
use Rattle.mpw_wire.specs.Writing.{fault_of}
use Rattle.mpw_reply_text.proofs.WritingLemmas.{Writes_first, Writes_both, handed_on}
use Rattle.mpw_reply_text.proofs.shape.write_boundary.Goals as goal

pub returns-in_err-write_boundary_head : goal.returns-in_err-write_boundary_head
unfolding shape_text
returns-in_err-write_boundary_head g c =
    let fault = c.in_err-write_boundary_head.field-0.0 in
    let s = c.args.shape.now in
    Writes_first _ _ _ _ fault _ _ (boundary_head s.cell.now s.version c.args.boundary.now.layer)
    (shape_end s.placing c.args.boundary.now.points)
    (ap fault_of c.in_err-write_boundary_head.was)
    (handed_on c.from_residual.result fault c.from_residual.ensures.1)
    c.write_boundary_head.ensures

pub returns : goal.returns
unfolding shape_text
returns g c =
    let s = c.args.shape.now in
    let head = (boundary_head s.cell.now s.version c.args.boundary.now.layer) in
    Writes_both _ _ _ _ _ _ _ _ head (shape_end s.placing c.args.boundary.now.points)
    (ap fault_of c.in_ok-write_boundary_head.was) c.write_boundary_head.ensures
    c.write_end.ensures
