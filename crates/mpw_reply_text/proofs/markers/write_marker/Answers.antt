-- Answers to the goals of `write_marker` in `src/markers.rt`.
use Rattle.std.proofs.Common.{ap}
use Rattle.mpw_wire.specs.Keys.{key_text}
use Rattle.mpw_reply_text.specs.Reply.{met_text, marker_text}
use Rattle.mpw_wire.specs.Writing.{fault_of}
use Rattle.mpw_reply_text.proofs.WritingLemmas.{Writes_first, Writes_both, handed_on}
use Rattle.mpw_reply_text.proofs.markers.write_marker.Goals as goal

pub returns-in_err-write_key : goal.returns-in_err-write_key
unfolding marker_text
returns-in_err-write_key g c =
    let fault = c.in_err-write_key.field-0.0 in
    let m = c.args.marker in
    Writes_first _ _ _ _ fault _ _ (key_text m.rule.now m.key.piece) (met_text m.cells)
    (ap fault_of c.in_err-write_key.was)
    (handed_on c.from_residual.result fault c.from_residual.ensures.1) c.write_key.ensures

pub returns : goal.returns
unfolding marker_text
returns g c =
    let m = c.args.marker in
    Writes_both _ _ _ _ _ _ _ _ (key_text m.rule.now m.key.piece) (met_text m.cells)
    (ap fault_of c.in_ok-write_key.was) c.write_key.ensures c.write_met.ensures
