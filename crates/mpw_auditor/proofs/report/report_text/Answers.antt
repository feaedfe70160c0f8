-- Answers to the goals of `report_text` in `src/report.rt`.
use Rattle.mpw_auditor.proofs.ReportLemmas.{four}
use Rattle.mpw_auditor.proofs.report.report_text.Goals as goal

pub returns : goal.returns
returns c = four _ _ _ _ _ _ _ _ _ c.new-text.ensures.bytes c.in_ok-add_rows.ensures
    c.in_ok-add_officer.ensures c.in_ok-add_log.ensures c.in_ok-add_unseen.ensures
