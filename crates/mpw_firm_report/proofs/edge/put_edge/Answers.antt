-- Answers to the goals of `put_edge` in `src/edge.rt`.
use Rattle.mpw_firm_report.specs.Report.{edge_text}
use Rattle.mpw_text.proofs.Adding.{adds_more}
use Rattle.mpw_firm_report.proofs.edge.put_edge.Goals as goal

pub returns : goal.returns
unfolding edge_text
returns g c =
    adds_more _ _ _ _ _ _ _ _ c.in_ok-put_point-2.was
    (adds_more _ _ _ _ _ _ _ _ c.in_ok-put-2.was
    (adds_more _ _ _ _ _ _ _ _ c.in_ok-put_point.was
    (adds_more _ _ _ _ _ _ _ _ c.in_ok-put.was
    c.put.ensures c.put_point.ensures) c.put-2.ensures) c.put_point-2.ensures) c.put-3.ensures
