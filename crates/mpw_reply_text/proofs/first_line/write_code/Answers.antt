-- Answers to the goals of `write_code` in `src/first_line.rt`.
use Rattle.std.proofs.Common.{◌∙◌, ◌++◌, ap, rules, sym}
use Rattle.mpw_reply_text.specs.Lines.{line_feed}
use Rattle.mpw_trail.specs.FirstLineText.{code_text, fault_at, refusal_of}
use Rattle.mpw_trail.proofs.FirstLineLemmas.{refused_alone}
use Rattle.mpw_reply_text.proofs.WritingLemmas.{Writes_same}
use Rattle.mpw_reply_text.proofs.first_line.write_code.Goals as goal

pub returns-in-Read : goal.returns-in-Read
unfolding code_text
returns-in-Read g c =
    rw c.in-Read.is (Writes_same _ _ _ _ _ _ _
    (ap (λ words. fault_at words c.in-Read.fault.offset ++ line_feed) (rw c.in-Read.is at c.code_words-words.ensures))
    c.write_fault.ensures)

pub returns-in-Deck : goal.returns-in-Deck
unfolding code_text
returns-in-Deck g c =
    rw c.in-Deck.is (Writes_same _ _ _ _ _ _ _
    (ap (λ words. fault_at words c.in-Deck.fault.line ++ line_feed) (rw c.in-Deck.is at c.code_words-words.ensures))
    c.write_fault-in-Deck.ensures)

pub returns-in_default : goal.returns-in_default
returns-in_default g c =
    Writes_same _ _ _ _ _ _ _
    (ap (λ words. refusal_of words ++ line_feed) c.code_words-words.ensures
    ∙ ap (λ text. text ++ line_feed) (sym
    (refused_alone c.args.code c.in_default.not-Read c.in_default.not-Deck)))
    (search rules)
