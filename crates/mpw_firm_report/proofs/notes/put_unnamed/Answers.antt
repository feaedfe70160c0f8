-- Answers to the goals of `put_unnamed` in `src/notes.rt`.
use Rattle.std.proofs.Common.{refl}
use Rattle.mpw_text.proofs.Adding.{adds_more, adds_same}
use Rattle.mpw_firm_report.specs.Report.{unnamed_text}
use Rattle.mpw_firm_report.proofs.notes.put_unnamed.Goals as goal

pub returns : goal.returns
unfolding unnamed_text
returns g c =
    adds_same _ _ _ _ _ (rw c.format.ensures.text refl)
    (adds_more _ _ _ _ _ _ _ _ c.in_ok-put_layer.was
    (adds_more _ _ _ _ _ _ _ _ c.in_ok-put.was c.put.ensures c.put_layer.ensures) c.put-2.ensures)
