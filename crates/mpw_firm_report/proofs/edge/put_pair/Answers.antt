-- Answers to the goals of `put_pair` in `src/edge.rt`.
use Rattle.std.proofs.Common.{refl}
use Rattle.mpw_firm_report.specs.Report.{pair_text}
use Rattle.mpw_text.proofs.Adding.{adds_more, adds_same}
use Rattle.mpw_firm_report.proofs.edge.put_pair.Goals as goal

pub returns : goal.returns
unfolding pair_text
returns g c =
    adds_same _ _ _ _ _ (rw (c.first_edge.ensures, c.second_edge.ensures) refl)
    (adds_more _ _ _ _ _ _ _ _ c.in_ok-put-2.was
    (adds_more _ _ _ _ _ _ _ _ c.in_ok-put_edge.was
    (adds_more _ _ _ _ _ _ _ _ c.in_ok-put.was
    c.put.ensures c.put_edge.ensures) c.put-2.ensures) c.put_edge-2.ensures)
