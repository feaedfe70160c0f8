-- Answers to the goals of `write_whole_line` in `src/write.rt`.
use Rattle.std.proofs.Common.{ap}
use Rattle.std.specs.List.{flat_map}
use Rattle.mpw_reply_text.specs.Lines.{line_feed}
use Rattle.mpw_wire.specs.Writing.{fault_of}
use Rattle.mpw_reply_text.proofs.WritingLemmas.{Writes_first, Writes_both, handed_on}
use Rattle.mpw_reply_text.proofs.write.write_whole_line.Goals as goal

pub returns-in_err-write_parts : goal.returns-in_err-write_parts
returns-in_err-write_parts g c =
    let fault = c.in_err-write_parts.field-0.0 in
    Writes_first _ _ _ _ fault _ _ (flat_map (λ part. part.now) c.args.parts.now) line_feed
    (ap fault_of c.in_err-write_parts.was)
    (handed_on c.from_residual.result fault c.from_residual.ensures.1) c.write_parts.ensures

pub returns : goal.returns
returns g c =
    Writes_both _ _ _ _ _ _ _ _ (flat_map (λ part. part.now) c.args.parts.now) line_feed
    (ap fault_of c.in_ok-write_parts.was) c.write_parts.ensures c.write_parts-2.ensures
