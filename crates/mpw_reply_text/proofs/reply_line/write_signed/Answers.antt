-- Answers to the goals of `write_signed` in `src/reply_line.rt`.
use Rattle.std.proofs.Common.{ap, rules}
use Rattle.mpw_requests.specs.Words.{marker_key}
use Rattle.mpw_reply_text.specs.Reply.{signed_part, signed_text}
use Rattle.mpw_wire.specs.Writing.{fault_of}
use Rattle.mpw_reply_text.proofs.WritingLemmas.{Writes_first, Writes_both, handed_on}
use Rattle.mpw_reply_text.proofs.reply_line.write_signed.Goals as goal

pub returns-in_err-write_marker_key : goal.returns-in_err-write_marker_key
unfolding signed_text
returns-in_err-write_marker_key g c =
    let fault = c.in_err-write_marker_key.field-0.0 in
    Writes_first _ _ _ _ fault _ _ (marker_key c.args.marker.now)
    (signed_part c.args.asker.now c.args.signer.now)
    (ap fault_of c.in_err-write_marker_key.was)
    (handed_on c.from_residual.result fault c.from_residual.ensures.1)
    c.write_marker_key.ensures

pub returns : goal.returns
unfolding signed_text
returns g c =
    Writes_both _ _ _ _ _ _ _ _ (marker_key c.args.marker.now)
    (signed_part c.args.asker.now c.args.signer.now)
    (ap fault_of c.in_ok-write_marker_key.was) c.write_marker_key.ensures (search rules)
