-- Answers to the goals of `put_item` in `src/item.rt`.
use Rattle.mpw_firm_report.specs.Report.{item_text}
use Rattle.mpw_text.proofs.Adding.{adds_more}
use Rattle.mpw_firm_report.proofs.item.put_item.Goals as goal

pub returns : goal.returns
unfolding item_text
returns g c =
    adds_more _ _ _ _ _ _ _ _ c.in_ok-put_pair.was
    (adds_more _ _ _ _ _ _ _ _ c.in_ok-put_part-3.was
    (adds_more _ _ _ _ _ _ _ _ c.in_ok-put_name.was
    (adds_more _ _ _ _ _ _ _ _ c.in_ok-put_part-2.was
    (adds_more _ _ _ _ _ _ _ _ c.in_ok-put_path.was
    (adds_more _ _ _ _ _ _ _ _ c.in_ok-put_part.was
    c.put_part.ensures c.put_path.ensures) c.put_part-2.ensures) c.put_name.ensures)
    c.put_part-3.ensures) c.put_pair.ensures) c.put_part-4.ensures
