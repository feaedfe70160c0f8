-- Answers to the goals of `write_lines` in `src/reply.rt`.
use Rattle.std.proofs.Common.{sym, ap, ◌∙◌}
use Rattle.std.specs.List.{flat_map}
use Rattle.mpw_replies.specs.Told.{kept_lines}
use Rattle.mpw_reply_text.specs.Reply.{line_text, listed_text}
use Rattle.mpw_reply_text.proofs.ListingLemmas.{stored_text}
use Rattle.mpw_reply_text.proofs.WritingLemmas.{Writes_same}
use Rattle.mpw_reply_text.proofs.reply.write_lines.Goals as goal

pub returns-in-Stored : goal.returns-in-Stored
returns-in-Stored g c =
    let lines = c.in-Stored.lines.now in
    Writes_same _ _ _ _ _ (flat_map line_text lines) _
    (sym (stored_text lines) ∙ ap (flat_map listed_text) (ap kept_lines (sym c.in-Stored.is)
    ∙ c.contents.ensures)) c.write_stored.ensures
