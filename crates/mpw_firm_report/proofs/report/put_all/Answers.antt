-- Answers to the goals of `put_all` in `src/report.rt`.
use Rattle.mpw_text.proofs.Adding.{adds_more}
use Rattle.mpw_firm_report.specs.Report.{full_text}
use Rattle.mpw_firm_report.proofs.report.put_all.Goals as goal

pub returns : goal.returns
unfolding full_text
returns g c =
    adds_more _ _ _ _ _ _ _ _ c.in_ok-put_faults.was
    (adds_more _ _ _ _ _ _ _ _ c.in_ok-put_items.was
    (adds_more _ _ _ _ _ _ _ _ c.in_ok-put_cells.was
    (adds_more _ _ _ _ _ _ _ _ c.in_ok-put_fault_category.was
    (adds_more _ _ _ _ _ _ _ _ c.in_ok-put_categories.was
    (adds_more _ _ _ _ _ _ _ _ c.in_ok-put_head.was
    c.put_head.ensures c.put_categories.ensures) c.put_fault_category.ensures) c.put_cells.ensures) c.put_items.ensures) c.put_faults.ensures) c.put_part.ensures
