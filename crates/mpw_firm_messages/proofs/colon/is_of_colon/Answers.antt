-- Answers to the goals of `is_of_colon` in `src/colon.rt`.
use Rattle.std.proofs.Common.{◌∙◌, map, ap}
use Rattle.std.specs.Prelude.{slice_get}
use Rattle.std.proofs.lemmas.Result.{IfOk-weaker}
use Rattle.mpw_firm_messages.specs.Colons.{colon_in}
use Rattle.mpw_firm_messages.proofs.colon.is_of_colon.Goals as goal

pub returns-in_ok-lines-in-Word : goal.returns-in_ok-lines-in-Word
returns-in_ok-lines-in-Word c =
    rw c.in-Word.is
    (IfOk-weaker c.colon_in.result _ _
    (λ colon p. p
    ∙ ap colon_in (c.line_at.ensures
    ∙ ap (λ lines. slice_get (map (λ l. l.now) lines) c.saturating_sub-at.result) c.as_slice.ensures.value
    ∙ ap (λ lines. slice_get lines c.saturating_sub-at.result) c.in_ok-lines-in-Word.ensures
    ∙ ap (slice_get _) c.saturating_sub-at.ensures))
    c.colon_in.ensures)
