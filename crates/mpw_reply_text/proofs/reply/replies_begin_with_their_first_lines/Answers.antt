-- Answers to the goals of `replies_begin_with_their_first_lines` in `src/reply.rt`.
use Rattle.mpw_reply_text.proofs.ReplyLemmas.{led_by_first_line}
use Rattle.mpw_reply_text.proofs.reply.replies_begin_with_their_first_lines.Goals as goal

pub returns : goal.returns
returns c = led_by_first_line
