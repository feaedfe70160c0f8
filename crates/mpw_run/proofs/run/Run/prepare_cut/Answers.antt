-- Answers to the goals of `Run::prepare_cut` in `src/run.rt`.
use Rattle.std.proofs.Common.{sym, ap, ◌∙◌}
use Rattle.mpw_job.specs.declared.job.CutJob.{CutJob}
use Rattle.mpw_run.proofs.Exactness.{snapshots}
use Rattle.mpw_run.proofs.run.Run.prepare_cut.Goals as goal

pub check_begun-requires-clause-snapshot : goal.check_begun-requires-clause-snapshot
check_begun-requires-clause-snapshot c =
    sym (ap (λ (job : CutJob). job.snapshot) c.job-in-Cutting.ensures)
    ∙ (snapshots c.job-in-Cutting.result.now.snapshot c.snapshot.result.now).0
    (sym c.is_same_snapshot.ensures ∙ c.if-not-is_same_snapshot.false)
    ∙ c.snapshot.ensures
