-- Answers to the goals of `write_accepted` in `src/reply.rt`.
use Rattle.std.proofs.Common.{ap, ◌++◌}
use Rattle.std.specs.List.{flat_map}
use Rattle.mpw_reply_text.specs.Reply.{listed_text, accepted_text}
use Rattle.mpw_reply_text.specs.Lines.{line_feed}
use Rattle.mpw_trail.specs.FirstLineText.{count_text}
use Rattle.mpw_wire.specs.Writing.{fault_of}
use Rattle.mpw_reply_text.proofs.WritingLemmas.{Writes_first, Writes_both, Writes_same, handed_on}
use Rattle.mpw_reply_text.proofs.reply.write_accepted.Goals as goal

pub returns-in_err-write_count : goal.returns-in_err-write_count
unfolding accepted_text
returns-in_err-write_count g c =
    let fault = c.in_err-write_count.field-0.0 in
    let rest = flat_map listed_text c.args.lines.now in
    Writes_same _ _ _ _ _ ((count_text c.len.result ++ line_feed) ++ rest) _
    (ap (λ n. (count_text n ++ line_feed) ++ rest) c.len.ensures)
    (Writes_first _ _ _ _ fault _ _ (count_text c.len.result ++ line_feed) rest
    (ap fault_of c.in_err-write_count.was)
    (handed_on c.from_residual.result fault c.from_residual.ensures.1) c.write_count.ensures)

pub returns : goal.returns
unfolding accepted_text
returns g c =
    let rest = flat_map listed_text c.args.lines.now in
    Writes_same _ _ _ _ _ ((count_text c.len.result ++ line_feed) ++ rest) _
    (ap (λ n. (count_text n ++ line_feed) ++ rest) c.len.ensures)
    (Writes_both _ _ _ _ _ _ _ _ (count_text c.len.result ++ line_feed) rest
    (ap fault_of c.in_ok-write_count.was) c.write_count.ensures c.write_lines.ensures)
