-- Answers to the goals of `put_idle` in `src/notes.rt`.
use Rattle.mpw_text.proofs.Adding.{adds_more}
use Rattle.mpw_firm_report.specs.Report.{idle_text}
use Rattle.mpw_firm_report.proofs.notes.put_idle.Goals as goal

pub returns : goal.returns
unfolding idle_text
returns g c =
    adds_more _ _ _ _ _ _ _ _ c.in_ok-put_layer.was
    (adds_more _ _ _ _ _ _ _ _ c.in_ok-put-2.was
    (adds_more _ _ _ _ _ _ _ _ c.in_ok-put_name.was
    (adds_more _ _ _ _ _ _ _ _ c.in_ok-put.was
    c.put.ensures c.put_name.ensures) c.put-2.ensures) c.put_layer.ensures) c.put-3.ensures
