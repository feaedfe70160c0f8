-- Answers to the goals of `write_refusal` in `src/reply.rt`.
use Rattle.std.proofs.Common.{rules, ap, subst, append-nil, []}
use Rattle.mpw_reply_text.specs.Reply.{refusal_text}
use Rattle.mpw_wire.specs.Writing.{fault_of, WritesKnown}
use Rattle.mpw_reply_text.proofs.WritingLemmas.{Writes_both}
use Rattle.mpw_reply_text.proofs.reply.write_refusal.Goals as goal

pub returns-clause-text : goal.returns-clause-text
unfolding refusal_text
returns-clause-text g c =
    let text = refusal_text c.args.refusal in
    subst (WritesKnown _ _ _ _ _) (append-nil text)
    (Writes_both _ _ _ _ _ _ _ _ text [] (ap fault_of c.in_ok-write_whole_line.was) (search rules)
    c.flush.ensures.text)
