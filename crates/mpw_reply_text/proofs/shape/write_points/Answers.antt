-- Answers to the goals of `write_points` in `src/shape.rt`.
use Rattle.std.proofs.Common.{rules, ap, ◌∙◌}
use Rattle.mpw_geom.specs.Placing.{placed_point}
use Rattle.mpw_reply_text.specs.Reply.{point_text, points_text}
use Rattle.mpw_wire.specs.Writing.{fault_of}
use Rattle.mpw_reply_text.proofs.WritingLemmas.{Writes-stop_at, handed_on}
use Rattle.mpw_reply_text.proofs.shape.write_points.Goals as goal

pub returns-in_err-write_point : goal.returns-in_err-write_point
unfolding points_text
returns-in_err-write_point g c =
    let fault = c.in_err-write_point.field-0.0 in
    Writes-stop_at (λ p. point_text (placed_point c.args.placing p)) c.args.points.now
    c.loop-index.index _ (search rules)
    _ _ _ _ _ _ fault _ _ (ap fault_of c.in_err-write_point.was)
    (handed_on c.from_residual.result fault c.from_residual.ensures.1)
    c.loop-index.invariant.0 c.loop-index.invariant.1 (point_text c.apply.result)
    (ap point_text c.apply.ensures
    ∙ ap (λ p. point_text (placed_point c.args.placing p)) c.at.ensures) c.write_point.ensures
