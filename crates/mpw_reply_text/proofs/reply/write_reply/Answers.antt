-- Answers to the goals of `write_reply` in `src/reply.rt`.
use Rattle.std.proofs.Common.{ap, subst, append-nil, []}
use Rattle.mpw_reply_text.specs.Reply.{reply_text}
use Rattle.mpw_wire.specs.Writing.{fault_of, WritesKnown}
use Rattle.mpw_reply_text.proofs.WritingLemmas.{Writes_both}
use Rattle.mpw_reply_text.proofs.reply.write_reply.Goals as goal

pub returns-clause-text : goal.returns-clause-text
returns-clause-text g c =
    let text = reply_text c.args.reply.now in
    subst (WritesKnown _ _ _ _ _) (append-nil text)
    (Writes_both _ _ _ _ _ _ _ _ text [] (ap fault_of c.in_ok-write_text.was) c.write_text.ensures
    c.flush.ensures.text)
