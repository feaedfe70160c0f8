-- Answers to the goals of `write_end` in `src/shape.rt`.
use Rattle.std.proofs.Common.{ap}
use Rattle.mpw_reply_text.specs.Reply.{points_text, shape_end}
use Rattle.mpw_reply_text.specs.Lines.{line_feed}
use Rattle.mpw_wire.specs.Writing.{fault_of}
use Rattle.mpw_reply_text.proofs.WritingLemmas.{Writes_first, Writes_both, handed_on}
use Rattle.mpw_reply_text.proofs.shape.write_end.Goals as goal

pub returns-in_err-write_points : goal.returns-in_err-write_points
unfolding shape_end
returns-in_err-write_points g c =
    let fault = c.in_err-write_points.field-0.0 in
    Writes_first _ _ _ _ fault _ _ (points_text c.args.placing c.args.points.now) line_feed
    (ap fault_of c.in_err-write_points.was)
    (handed_on c.from_residual.result fault c.from_residual.ensures.1) c.write_points.ensures

pub returns : goal.returns
unfolding shape_end
returns g c =
    Writes_both _ _ _ _ _ _ _ _ (points_text c.args.placing c.args.points.now) line_feed
    (ap fault_of c.in_ok-write_points.was) c.write_points.ensures c.write_parts.ensures
