-- Answers to the goals of `write_stored` in `src/reply.rt`.
use Rattle.std.proofs.Common.{rules, ap}
use Rattle.mpw_reply_text.specs.Reply.{line_text}
use Rattle.mpw_wire.specs.Writing.{fault_of}
use Rattle.mpw_reply_text.proofs.WritingLemmas.{Writes-stop_at, handed_on}
use Rattle.mpw_reply_text.proofs.reply.write_stored.Goals as goal

pub returns-in_err-write_line : goal.returns-in_err-write_line
returns-in_err-write_line g c =
    let fault = c.in_err-write_line.field-0.0 in
    Writes-stop_at line_text c.args.lines.now c.loop-line.line-index _ (search rules)
    _ _ _ _ _ _ fault _ _ (ap fault_of c.in_err-write_line.was)
    (handed_on c.from_residual.result fault c.from_residual.ensures.1)
    c.loop-line.invariant.0 c.loop-line.invariant.1 (line_text c.line-item.result)
    (ap line_text c.line-item.is) c.write_line.ensures
