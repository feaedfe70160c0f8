-- Answers to the goals of `put_head` in `src/report.rt`.
use Rattle.mpw_text.proofs.Adding.{adds_more}
use Rattle.mpw_firm_report.specs.Report.{head_text}
use Rattle.mpw_firm_report.proofs.report.put_head.Goals as goal

pub returns : goal.returns
unfolding head_text
returns g c =
    adds_more _ _ _ _ _ _ _ _ c.in_ok-put_name-2.was
    (adds_more _ _ _ _ _ _ _ _ c.in_ok-put_part-3.was
    (adds_more _ _ _ _ _ _ _ _ c.in_ok-put_original.was
    (adds_more _ _ _ _ _ _ _ _ c.in_ok-put_part-2.was
    (adds_more _ _ _ _ _ _ _ _ c.in_ok-put_notes.was
    (adds_more _ _ _ _ _ _ _ _ c.in_ok-put_name.was
    (adds_more _ _ _ _ _ _ _ _ c.in_ok-put_part.was
    c.put_part.ensures c.put_name.ensures) c.put_notes.ensures) c.put_part-2.ensures) c.put_original.ensures) c.put_part-3.ensures) c.put_name-2.ensures) c.put_part-4.ensures
