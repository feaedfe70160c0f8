-- Answers to the goals of `put_marks` in `src/mark.rt`.
use Rattle.mpw_text.proofs.Adding.{adds_more}
use Rattle.mpw_firm_picture.specs.Marked.{marks_text}
use Rattle.mpw_firm_picture.proofs.mark.put_marks.Goals as goal

pub returns : goal.returns
unfolding marks_text
returns g c =
    adds_more _ _ _ _ _ _ _ _ c.in_ok-put_wanted.was
    (adds_more _ _ _ _ _ _ _ _ c.in_ok-put_shown.was
    (adds_more _ _ _ _ _ _ _ _ c.in_ok-put_marks_head.was
    c.put_marks_head.ensures c.put_shown.ensures) c.put_wanted.ensures) c.put.ensures
