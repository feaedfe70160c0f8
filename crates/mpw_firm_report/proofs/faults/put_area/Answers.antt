-- Answers to the goals of `put_area` in `src/faults.rt`.
use Rattle.std.proofs.Common.{refl}
use Rattle.mpw_text.proofs.Adding.{adds_more, adds_same}
use Rattle.mpw_firm_report.specs.Report.{area_text}
use Rattle.mpw_firm_report.proofs.faults.put_area.Goals as goal

pub returns : goal.returns
unfolding area_text
returns g c =
    adds_same _ _ _ _ _ (rw (c.low_corner.ensures, c.high_corner.ensures) refl)
    (adds_more _ _ _ _ _ _ _ _ c.in_ok-put_point-2.was
    (adds_more _ _ _ _ _ _ _ _ c.in_ok-put-2.was
    (adds_more _ _ _ _ _ _ _ _ c.in_ok-put_point.was
    (adds_more _ _ _ _ _ _ _ _ c.in_ok-put.was
    c.put.ensures c.put_point.ensures) c.put-2.ensures) c.put_point-2.ensures) c.put-3.ensures)
