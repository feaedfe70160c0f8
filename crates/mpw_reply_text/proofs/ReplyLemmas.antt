-- The beginning of a reply.
use Rattle.std.proofs.Common.{[], length, refl, append_assoc}
use Rattle.std.specs.List.{flat_map}
use Rattle.mpw_replies.specs.FirstLines.{first_line_of}
use Rattle.mpw_replies.specs.declared.reply.Reply.{Reply}
use Rattle.mpw_replies.specs.declared.reply.Reply.TheVariants as reply
use Rattle.mpw_reply_text.specs.Reply.{listed_text, accepted_text, reply_text, IsLedBy}
use Rattle.mpw_reply_text.specs.Lines.{line_feed}
use Rattle.mpw_trail.specs.FirstLineText.{count_text, first_line_text}

pub led_by_first_line : (r : Reply) → IsLedBy (first_line_text (first_line_of r)) (reply_text r)
unfolding reply_text accepted_text
led_by_first_line (reply.Ok lines) = (
  flat_map listed_text lines,
  append_assoc (count_text (length lines)) line_feed
      (flat_map listed_text lines),
)
led_by_first_line (reply.Denied why) = ([], refl)
led_by_first_line (reply.Refused why) = ([], refl)
